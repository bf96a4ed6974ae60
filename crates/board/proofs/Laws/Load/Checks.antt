-- What it says of a record that no field check of it fails, each check as a plain fact; and a record of which these facts hold fails none.
-- Assumes nothing.
use Prim.Native.Nat.{ℕ, suc, ◌≤◌, ◌<◌}
use native.Mathlib.Omega.{arith}
use mathlib.Core.Path.{◌≡◌, refl}
use mathlib.Core.Logic.{◌⊎◌, inl, inr, ⊎_elim}
use mathlib.Core.Bool.{Bool, true, false, ◌&&◌, ◌||◌, or-true}
use mathlib.Core.List.{List, ◌∷◌, Memᴰ}
use lib.ListN.{length}
use lib.Dec.{T, leb, eqb, leb→le, eqb→eq}
use borrow.Author.Tests.{ltb-false, leb-false, eqb-false, not-false, le-ltb, lt-leb, eq-eqb, ne_eqb}
use Rattle.sets.specs.Lists.{any, ascending}
use Rattle.sets.proofs.Laws.Lists.{any_none, none_at}
use Rattle.sets.proofs.Laws.Tests.{T_of_true, true_of_T, and_left, and_right, or_cases, or_false_left, or_false_right}
use Rattle.board.specs.Sizes.{most_atoms, most_declarations, most_hypotheses, most_rules, most_w}
use Rattle.board.specs.Board.{Board, Hypothesis, declarations_in, declaration, is_hypothesis, W}
use Rattle.board.specs.File.{count, hypothesis, rule, finish}
use Rattle.board.specs.Private.Passes.{Follows}
use Rattle.board.specs.Load.{Check, first_failing, field_checks, filled, filled_first}

-- what check 5 asks of a declaration's number
pub follows_of : (hs : List Hypothesis) (d : ℕ) → (eqb (suc d) (declarations_in hs) || eqb d (declarations_in hs)) ≡ true → Follows hs d
follows_of hs d e =
    let last : Bool = eqb (suc d) (declarations_in hs) in
    let next : Bool = eqb d (declarations_in hs) in
    ⊎_elim (λ t. inl (eqb→eq (suc d) (declarations_in hs) t)) (λ t. inr (eqb→eq d (declarations_in hs) t)) (or_cases last next (T_of_true e))

-- where no check fails, the first does not, and none of the others
passed : (k : ℕ) (t : Bool) (rest : List Check) → first_failing (record { number = suc k; fails = t } ∷ rest) ≡ 0 → (t ≡ false) × (first_failing rest ≡ 0)
unfolding first_failing
passed k true rest e = absurd (omega arith)
passed k false rest e = (refl, e)

-- where all are below n, none is at n or above
none_above : (n : ℕ) (xs : List ℕ) → ((a : ℕ) → Memᴰ a xs → a < n) → any (leb n) xs ≡ false
none_above n xs h = any_none (leb n) xs (λ a m t. omega (arith, h a m, leb→le n a t))

-- ---- the count

-- "1 to 128 atoms"
pub count-checked : (b : Board) (n : ℕ) → first_failing (field_checks b (count n)) ≡ 0 → (1 ≤ n) × (n ≤ 128)
unfolding field_checks
count-checked b n c =
    let (p, rest) = passed 3 _ _ c in
    (omega (arith, eqb-false n 0 (or_false_left (eqb n 0) _ p)), ltb-false most_atoms n (or_false_right (eqb n 0) _ p))

-- a count of 1 to 128
pub count-passes : (b : Board) (n : ℕ) → 1 ≤ n → n ≤ 128 → first_failing (field_checks b (count n)) ≡ 0
unfolding field_checks first_failing
count-passes b n l h = rw (ne_eqb n 0 (λ e. omega arith), le-ltb most_atoms n h)

-- ---- a hypothesis

-- no check of its record fails
pub record HypothesisChecked (b : Board) (d a w : ℕ) : Type 0 where
  -- the atom is below the count
  pub atom_below : a < b.atoms
  -- "0 to 32 declarations"
  pub declaration_room : d < 32
  -- the declaration is the last one or the next
  pub last_or_next : Follows b.hypotheses d
  -- the atom is no hypothesis yet
  pub new : is_hypothesis b a ≡ false
  -- "each of 1 to 16 hypotheses"
  pub room : length (declaration b.hypotheses d) < 16
  -- the weight is not 0
  pub weight_positive : 1 ≤ w

module _ (b : Board) (d a w : ℕ) where
  pub hypothesis-checked : first_failing (field_checks b (hypothesis d a w)) ≡ 0 → HypothesisChecked b d a w
  unfolding field_checks
  hypothesis-checked c =
      let (four, c₅) = passed 3 _ _ c in
      let (five, c₆) = passed 4 _ _ c₅ in
      let (six, c₇) = passed 5 _ _ c₆ in
      let (seven, none) = passed 6 _ _ c₇ in
      record {
        atom_below = leb-false b.atoms a four;
        declaration_room = leb-false most_declarations d (or_false_left (leb most_declarations d) _ five);
        last_or_next = follows_of b.hypotheses d (not-false _ (or_false_right (leb most_declarations d) _ five));
        new = or_false_left (is_hypothesis b a) _ six;
        room = leb-false most_hypotheses _ (or_false_right (is_hypothesis b a) _ six);
        weight_positive = omega (arith, eqb-false w 0 seven);
      }

  -- .. and the other way round
  pub hypothesis-passes : HypothesisChecked b d a w → first_failing (field_checks b (hypothesis d a w)) ≡ 0
  unfolding field_checks first_failing
  hypothesis-passes k =
      rw (
        lt-leb b.atoms a k.atom_below,
        lt-leb most_declarations d k.declaration_room,
        last-or-next k.last_or_next,
        k.new,
        lt-leb most_hypotheses _ k.room,
        ne_eqb w 0 (λ e. omega arith),
      )
    where
      last-or-next : {n : ℕ} → (suc d ≡ n) ⊎ (d ≡ n) → (eqb (suc d) n || eqb d n) ≡ true
      last-or-next {n} (inl e) = rw (eq-eqb (suc d) n e)
      last-or-next {n} (inr e) = rw (eq-eqb d n e) (or-true (eqb (suc d) n))

-- ---- a rule

-- no check of its record fails
pub record RuleChecked (b : Board) (h : ℕ) (places : List ℕ) : Type 0 where
  -- the head is below the count; the body's atoms are, being below the head
  pub head_below : h < b.atoms
  -- "Filled places come first"
  pub first : T (filled_first places)
  -- "strictly ascending"
  pub body_ascending : T (ascending (filled places))
  -- the head is no hypothesis
  pub head_no_hypothesis : is_hypothesis b h ≡ false
  -- "Body atoms are below the head"
  pub body_below : (a : ℕ) → Memᴰ a (filled places) → a < h
  -- "0 to 256 rules"
  pub room : length b.rules < 256

module _ (b : Board) (h : ℕ) (places : List ℕ) where
  pub rule-checked : first_failing (field_checks b (rule h places)) ≡ 0 → RuleChecked b h places
  unfolding field_checks
  rule-checked c =
      let (four, c₉) = passed 3 _ _ c in
      let (nine, c₁₀) = passed 8 _ _ c₉ in
      let (ten, c₁₁) = passed 9 _ _ c₁₀ in
      let (eleven, c₁₂) = passed 10 _ _ c₁₁ in
      let (twelve, none) = passed 11 _ _ c₁₂ in
      let up : T (filled_first places && ascending (filled places)) = T_of_true (not-false (filled_first places && ascending (filled places)) nine) in
      record {
        head_below = leb-false b.atoms h (or_false_left (leb b.atoms h) _ four);
        first = and_left (filled_first places) _ up;
        body_ascending = and_right (filled_first places) _ up;
        head_no_hypothesis = ten;
        body_below = λ a m. leb-false h a (none_at (leb h) eleven m);
        room = leb-false most_rules _ twelve;
      }

  -- .. and the other way round
  pub rule-passes : RuleChecked b h places → first_failing (field_checks b (rule h places)) ≡ 0
  unfolding field_checks first_failing
  rule-passes k =
      rw (
        lt-leb b.atoms h k.head_below,
        none_above b.atoms (filled places) (λ a m. omega (arith, k.body_below a m)),
        true_of_T (filled_first places) k.first,
        true_of_T (ascending (filled places)) k.body_ascending,
        k.head_no_hypothesis,
        none_above h (filled places) k.body_below,
        lt-leb most_rules _ k.room,
      )

  -- "Filled places come first"
  pub rule-filled_first : first_failing (field_checks b (rule h places)) ≡ 0 → T (filled_first places)
  rule-filled_first c = (rule-checked c).first

-- ---- the end

-- "W is .. at most 1,000,000,000,000,000"
pub finish-weight : (b : Board) → first_failing (field_checks b finish) ≡ 0 → W b ≤ 1_000_000_000_000_000
unfolding field_checks
finish-weight b c = ltb-false most_w (W b) (passed 7 _ _ c).0

-- .. and the other way round
pub finish-passes : (b : Board) → W b ≤ 1_000_000_000_000_000 → first_failing (field_checks b finish) ≡ 0
unfolding field_checks first_failing
finish-passes b h = rw (le-ltb most_w (W b) h)
