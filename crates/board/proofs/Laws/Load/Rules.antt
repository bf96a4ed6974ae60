-- What the rules have that pass one after another. Assumes nothing.
use Prim.Native.Nat.{ℕ, ◌≤◌}
use native.Mathlib.Omega.{arith}
use mathlib.Core.Path.{◌≡◌}
use mathlib.Core.Bool.{◌&&◌}
use mathlib.Core.List.{List, [], ◌∷◌, Memᴰ}
use lib.ListN.{length, length-append}
use lib.Dec.{T, ltb, leb, leb→le}
use Rattle.sets.specs.Lists.{all}
use Rattle.sets.proofs.Laws.Tests.{and_left, and_right}
use Rattle.board.specs.Sizes.{most_body}
use Rattle.board.specs.Board.{Board, Hypothesis, Rule, is_hypothesis}
use Rattle.board.specs.File.{rule}
use Rattle.board.specs.Load.{first_failing, field_checks, filled}
use Rattle.board.proofs.Laws.Load.Checks.{rule-checked}
use Rattle.board.proofs.Laws.Load.Each.{each_member, each_keeps}
use Rattle.board.proofs.Laws.Load.{record_passes-zero}
use Rattle.board.specs.Accepted.{AcceptedRule}
use Rattle.board.specs.Table.{places_of}
use Rattle.board.specs.Private.Passes.{record_passes}
use Rattle.board.proofs.Laws.Load.Passes.{rule_passes, rules_pass}
use Rattle.board.proofs.Laws.Filled.{filled-places_of}

-- the board after these rules
abbrev pub after_rules : ℕ → List Hypothesis → List Rule → Board
after_rules atoms hypotheses before = record { atoms = atoms; hypotheses = hypotheses; rules = before }

-- a rule that passes: no check fails, its body has 8 atoms at most, and all are below the count
module _ (atoms : ℕ) (hypotheses : List Hypothesis) (before : List Rule) (r : Rule) (t : T (rule_passes atoms hypotheses before r)) where
  -- no check fails, and the body is short
  fits : T (record_passes (after_rules atoms hypotheses before) (rule r.head (places_of r)) && leb (length r.body) most_body)
  unfolding rule_passes
  fits = and_left (record_passes (after_rules atoms hypotheses before) (rule r.head (places_of r)) && leb (length r.body) most_body) _ t

  -- no check of its record fails
  pub rule_passes-zero : first_failing (field_checks (after_rules atoms hypotheses before) (rule r.head (places_of r))) ≡ 0
  rule_passes-zero = record_passes-zero _ _ (and_left (record_passes (after_rules atoms hypotheses before) (rule r.head (places_of r))) _ fits)

  -- its body has 8 atoms at most
  pub rule_passes-length : length r.body ≤ most_body
  rule_passes-length = leb→le _ _ (and_right (record_passes (after_rules atoms hypotheses before) (rule r.head (places_of r))) _ fits)

  -- its body has atoms alone
  pub rule_passes-atoms : T (all (λ a. ltb a atoms) r.body)
  unfolding rule_passes
  rule_passes-atoms = and_right (record_passes (after_rules atoms hypotheses before) (rule r.head (places_of r)) && leb (length r.body) most_body) _ t

-- each of those that pass is accepted
pub rules-accepted : (b : Board) (before rs : List Rule) → b.atoms ≤ 128 → T (rules_pass b.atoms b.hypotheses before rs)
    → (r : Rule) → Memᴰ r rs → AcceptedRule b r
unfolding is_hypothesis
rules-accepted b before rs l t r m =
    let (qs, u) = each_member (rule_passes b.atoms b.hypotheses) before rs t m in
    let k = rule-checked (after_rules b.atoms b.hypotheses qs) r.head (places_of r) (rule_passes-zero _ _ qs r u) in
    let e : filled (places_of r) ≡ r.body = filled-places_of b.atoms l r (rule_passes-atoms _ _ qs r u) in
    record {
      head_below = k.head_below;
      head_no_hypothesis = k.head_no_hypothesis;
      body_room = rule_passes-length _ _ qs r u;
      body_below = rw e at k.body_below;
      body_ascending = rw e at k.body_ascending;
    }

-- "0 to 256 rules"
pub rules-length : (atoms : ℕ) (hypotheses : List Hypothesis) (rs : List Rule) → T (rules_pass atoms hypotheses [] rs) → length rs ≤ 256
rules-length atoms hypotheses rs t =
    each_keeps (rule_passes atoms hypotheses) (λ l. length l ≤ 256)
    (λ before r p h. rw (length-append before (r ∷ [])) (omega (arith, (rule-checked _ _ _ (rule_passes-zero atoms hypotheses before r h)).room))) [] rs (omega arith) t
