-- What the hypotheses have that pass one after another: each law goes from the hypotheses before to one more. Assumes nothing.
use Prim.Native.Nat.{ℕ, suc, ◌^◌, ◌≤◌, ◌<◌, max}
use native.Mathlib.Omega.{arith}
use native.Mathlib.Decide.{ℕ_discrete}
use mathlib.Core.Path.{◌≡◌, sym, ◌∙◌}
use mathlib.Core.Logic.{◌⊎◌, inl, inr}
use mathlib.Core.List.{List, [], ◌∷◌, ◌++◌, map, map-append, Memᴰ}
use lib.ListN.{length, length-append}
use lib.Dec.{T, ltb→lt}
use Rattle.sets.specs.Lists.{keep, distinct}
use Rattle.sets.proofs.Laws.Tests.{and_left, and_right}
use Rattle.board.specs.Board.{Board, Hypothesis, declarations_in, declaration, is_hypothesis}
use Rattle.board.proofs.Laws.Board.{declarations_in_snoc, declaration_snoc_same, declaration_snoc_other, is_atom_of-among}
use Rattle.board.specs.File.{hypothesis}
use Rattle.board.specs.Load.{first_failing, field_checks}
use Rattle.board.proofs.Laws.Load.Checks.{HypothesisChecked, hypothesis-checked}
use Rattle.board.proofs.Laws.Load.Each.{each_at, each_member, each_keeps}
use Rattle.board.proofs.Laws.Load.{record_passes-zero}
use Rattle.board.specs.Accepted.{AcceptedHypothesis}
use Rattle.sets.proofs.Laws.Lists.Distinct.{distinct_snoc}
use Rattle.board.specs.Private.Passes.{record_passes, hypothesis_passes, hypotheses_pass}

-- the board after these hypotheses
abbrev pub after : ℕ → List Hypothesis → Board
after atoms before = record { atoms = atoms; hypotheses = before; rules = [] }

-- a hypothesis that passes: no check fails, and its weight has 3 bytes
module _ (atoms : ℕ) (before : List Hypothesis) (h : Hypothesis) (t : T (hypothesis_passes atoms before h)) where
  -- no check of its record fails
  pub hypothesis_passes-zero : first_failing (field_checks (after atoms before) (hypothesis h.declaration h.atom h.weight)) ≡ 0
  unfolding hypothesis_passes
  hypothesis_passes-zero = record_passes-zero _ _ (and_left (record_passes (after atoms before) (hypothesis h.declaration h.atom h.weight)) _ t)

  -- what its checks say of it
  pub hypothesis_passes-checked : HypothesisChecked (after atoms before) h.declaration h.atom h.weight
  hypothesis_passes-checked = hypothesis-checked _ _ _ _ hypothesis_passes-zero

  -- its weight has 3 bytes
  pub hypothesis_passes-weight : h.weight < 2 ^ 24
  unfolding hypothesis_passes
  hypothesis_passes-weight = ltb→lt _ _ (and_right (record_passes (after atoms before) (hypothesis h.declaration h.atom h.weight)) _ t)

-- each of those that pass is accepted
pub hypotheses-accepted : (atoms : ℕ) (before hs : List Hypothesis) → T (hypotheses_pass atoms before hs) → (h : Hypothesis) → Memᴰ h hs → AcceptedHypothesis atoms h
hypotheses-accepted atoms before hs t h m =
    let (ys, u) = each_member (hypothesis_passes atoms) before hs t m in
    let k = hypothesis_passes-checked atoms ys h u in
    record {
      atom_below = k.atom_below;
      weight_positive = k.weight_positive;
      weight_room = omega (arith, hypothesis_passes-weight atoms ys h u);
    }

-- what a hypothesis keeps by its checks, all have that pass
each-hypothesis : (atoms : ℕ) (P : List Hypothesis → Type 0)
    → ((before : List Hypothesis) (h : Hypothesis) → P before
    → HypothesisChecked (after atoms before) h.declaration h.atom h.weight → P (before ++ (h ∷ [])))
    → (hs : List Hypothesis) → P [] → T (hypotheses_pass atoms [] hs) → P hs
each-hypothesis atoms P step = each_keeps (hypothesis_passes atoms) P (λ before h k t. step before h k (hypothesis_passes-checked atoms before h t)) []

-- ---- one hypothesis more

-- no declaration is left out
no_gap : {d n : ℕ} → (suc d ≡ n) ⊎ (d ≡ n) → d ≤ n
no_gap (inl e) = omega arith
no_gap (inr e) = omega arith

-- a declaration's size, with one hypothesis more
sized : (before : List Hypothesis) (h : Hypothesis) (d : ℕ) → (d < declarations_in before → 1 ≤ length (declaration before d)) × (length (declaration before d) ≤ 16)
    → h.declaration ≤ declarations_in before → length (declaration before h.declaration) < 16
    → (d < declarations_in (before ++ (h ∷ [])) → 1 ≤ length (declaration (before ++ (h ∷ [])) d)) × (length (declaration (before ++ (h ∷ [])) d) ≤ 16)
sized before h d p g r = rw (declarations_in_snoc before h) (go (ℕ_discrete h.declaration d))
  where
    go : Dec (h.declaration ≡ d)
        → (d < max (declarations_in before) (suc h.declaration) → 1 ≤ length (declaration (before ++ (h ∷ [])) d)) × (length (declaration (before ++ (h ∷ [])) d) ≤ 16)
    go (yes e) =
        let room : length (declaration before d) < 16 = rw e at r in
        rw (declaration_snoc_same before h d e, length-append) (λ l. omega arith, omega arith)
    go (no e) = rw (declaration_snoc_other before h d e) (λ l. p.0 (omega arith), p.1)

-- ---- the laws

module _ (atoms : ℕ) (hs : List Hypothesis) (t : T (hypotheses_pass atoms [] hs)) where
  -- "0 to 32 declarations"
  pub hypotheses-declarations : declarations_in hs ≤ 32
  unfolding declarations_in
  hypotheses-declarations =
      each-hypothesis atoms (λ l. declarations_in l ≤ 32) (λ before h p c. rw (declarations_in_snoc before h) (omega (arith, c.declaration_room))) hs (omega arith) t

  -- no atom stands twice
  pub hypotheses-distinct : T (distinct (map (λ (h : Hypothesis). h.atom) hs))
  unfolding distinct is_hypothesis
  hypotheses-distinct =
      each-hypothesis atoms (λ l. T (distinct (map (λ (h : Hypothesis). h.atom) l)))
      (λ before h p c. rw (map-append (λ (h : Hypothesis). h.atom) before (h ∷ []))
      (distinct_snoc _ h.atom p (sym (is_atom_of-among before h.atom) ∙ c.new))) hs tt t

  -- "each of 1 to 16 hypotheses"
  pub hypotheses_sizes : (d : ℕ) → (d < declarations_in hs → 1 ≤ length (declaration hs d)) × (length (declaration hs d) ≤ 16)
  unfolding declaration keep declarations_in
  hypotheses_sizes =
      each-hypothesis atoms (λ l. (d : ℕ) → (d < declarations_in l → 1 ≤ length (declaration l d)) × (length (declaration l d) ≤ 16))
      (λ before h p c d. sized before h d (p d) (no_gap c.last_or_next) c.room) hs (λ d. (λ l. omega arith, omega arith)) t

  -- "each record repeats the last one's number or adds 1"
  pub hypotheses-numbered : (before : List Hypothesis) (h : Hypothesis) (after : List Hypothesis) → hs ≡ before ++ (h ∷ after)
      → (suc h.declaration ≡ declarations_in before) ⊎ (h.declaration ≡ declarations_in before)
  hypotheses-numbered before h after e = (hypothesis_passes-checked atoms before h (each_at (hypothesis_passes atoms) [] before h after (rw e at t))).last_or_next
