-- Laws of the board read so far: the parts of what it passes, and that a record that no field check refuses leaves it such a board. Assumes nothing.
pub mod Checks
pub mod Deciding
pub mod Each
pub mod Hypotheses
pub mod Loaded
pub mod Numbers
pub mod Passes
pub mod Reading
pub mod Room
pub mod Rules
pub mod Steps
use Prim.Native.Nat.{ℕ, ◌^◌, ◌<◌}
use native.Mathlib.Omega.{arith}
use mathlib.Core.Path.{◌≡◌}
use mathlib.Core.Bool.{true, not, ◌&&◌}
use mathlib.Core.List.{List, []}
use lib.ListN.{length}
use lib.Dec.{T, leb, eqb, lt→ltb, le→leb, eqb→eq}
use Rattle.sets.specs.Lists.{is_empty}
use Rattle.sets.proofs.Laws.Lists.{all_of, keep_shorter, empty_nil}
use Rattle.sets.proofs.Laws.Tests.{and_both, and_left, and_right}
use Rattle.board.specs.Sizes.{most_body, empty_place}
use Rattle.board.specs.Board.{Board, Hypothesis, Rule, is_hypothesis}
use Rattle.board.specs.File.{Record, count, hypothesis, rule}
use Rattle.board.specs.Load.{no_board, first_failing, field_checks, filled, taking}
use Rattle.board.proofs.Laws.Load.Each.{each_snoc}
use Rattle.board.proofs.Laws.Load.Checks.{RuleChecked, rule-checked}
use Rattle.board.specs.Table.{places_of}
use Rattle.board.specs.Private.Passes.{record_passes, each_passes, hypothesis_passes, hypotheses_pass}
use Rattle.board.proofs.Laws.Load.Passes.{rule_passes, rules_pass, so_far}
use Rattle.board.proofs.Laws.Filled.{places_of-filled}

-- a record passes exactly if no check fails
pub record_passes-zero : (b : Board) (r : Record) → T (record_passes b r) → first_failing (field_checks b r) ≡ 0
unfolding record_passes
record_passes-zero b r h = eqb→eq _ 0 h

-- .. the other way round
pub zero-record_passes : (b : Board) (r : Record) → first_failing (field_checks b r) ≡ 0 → T (record_passes b r)
unfolding record_passes
zero-record_passes b r e = rw e tt

-- ---- the parts of a board read so far

module _ (b : Board) (h : T (so_far b)) where
  -- the count and the hypotheses pass
  first_two : T (record_passes no_board (count b.atoms) && hypotheses_pass b.atoms [] b.hypotheses)
  unfolding so_far
  first_two = and_left (record_passes no_board (count b.atoms) && hypotheses_pass b.atoms [] b.hypotheses) _ h

  -- the count passes
  pub so_far-atoms : first_failing (field_checks no_board (count b.atoms)) ≡ 0
  so_far-atoms = record_passes-zero no_board (count b.atoms) (and_left (record_passes no_board (count b.atoms)) _ first_two)

  -- the hypotheses pass, one after another
  pub so_far-hypotheses : T (hypotheses_pass b.atoms [] b.hypotheses)
  so_far-hypotheses = and_right (record_passes no_board (count b.atoms)) _ first_two

  -- the rules pass, one after another
  pub so_far-rules : T (rules_pass b.atoms b.hypotheses [] b.rules)
  unfolding so_far
  so_far-rules = and_right (record_passes no_board (count b.atoms) && hypotheses_pass b.atoms [] b.hypotheses) _ h

-- the parts make the whole
pub so_far-of : (b : Board) → first_failing (field_checks no_board (count b.atoms)) ≡ 0 → T (hypotheses_pass b.atoms [] b.hypotheses)
    → T (rules_pass b.atoms b.hypotheses [] b.rules) → T (so_far b)
unfolding so_far
so_far-of b a h r =
    and_both (record_passes no_board (count b.atoms) && hypotheses_pass b.atoms [] b.hypotheses) _
    (and_both (record_passes no_board (count b.atoms)) _ (zero-record_passes no_board (count b.atoms) a) h) r

-- ---- one record more

-- the count, first of all
pub so_far-count : (n : ℕ) → first_failing (field_checks no_board (count n)) ≡ 0 → T (so_far (taking no_board (count n)))
unfolding taking no_board each_passes
so_far-count n c = so_far-of (taking no_board (count n)) c tt tt

-- a hypothesis that no check refuses passes; rules are not asked for in its checks
pub hypothesis_passes-of : (b : Board) (h : Hypothesis) → first_failing (field_checks b (hypothesis h.declaration h.atom h.weight)) ≡ 0 → h.weight < 2 ^ 24
    → T (hypothesis_passes b.atoms b.hypotheses h)
unfolding hypothesis_passes field_checks is_hypothesis
hypothesis_passes-of b h c l =
    and_both (record_passes (record { atoms = b.atoms; hypotheses = b.hypotheses; rules = [] }) (hypothesis h.declaration h.atom h.weight)) _
    (zero-record_passes _ (hypothesis h.declaration h.atom h.weight) c) (lt→ltb h.weight (2 ^ 24) l)

-- no rules pass
no_rules : (atoms : ℕ) (hypotheses : List Hypothesis) → T (rules_pass atoms hypotheses [] [])
unfolding each_passes
no_rules atoms hypotheses = tt

-- a rule that no check refuses passes; the places of its record are those of its body
pub rule_passes-of : (b : Board) (h : ℕ) (places : List ℕ) → length places ≡ 8 → first_failing (field_checks b (rule h places)) ≡ 0
    → T (rule_passes b.atoms b.hypotheses b.rules (record { head = h; body = filled places }))
unfolding rule_passes filled
rule_passes-of b h places l c =
    let new : Rule = record { head = h; body = filled places } in
    let checked : RuleChecked b h places = rule-checked b h places c in
    and_both (record_passes b (rule h (places_of new)) && leb (length (filled places)) most_body) _
    (and_both (record_passes b (rule h (places_of new))) _
    (zero-record_passes b (rule h _) (rw (places_of-filled h places l checked.first) c))
    (le→leb (length (filled places)) 8 (rw l at (keep_shorter (λ p. not (eqb p empty_place)) places))))
    (all_of _ (filled places) (λ a m. lt→ltb a b.atoms (omega (arith, checked.body_below a m))))

-- a hypothesis, while there are no rules
pub so_far-hypothesis : (b : Board) (d a w : ℕ) → T (so_far b) → is_empty b.rules ≡ true → first_failing (field_checks b (hypothesis d a w)) ≡ 0
    → w < 2 ^ 24 → T (so_far (taking b (hypothesis d a w)))
unfolding taking
so_far-hypothesis b d a w h e c l =
    so_far-of (taking b (hypothesis d a w)) (so_far-atoms b h)
    (rw (each_snoc (hypothesis_passes b.atoms) [] b.hypotheses new) (and_both (hypotheses_pass b.atoms [] b.hypotheses) _ (so_far-hypotheses b h) (hypothesis_passes-of b new c l)))
    (rw (empty_nil b.rules e) (no_rules b.atoms _))
  where
    new : Hypothesis
    new = record { declaration = d; atom = a; weight = w }

-- a rule
pub so_far-rule : (b : Board) (h : ℕ) (places : List ℕ) → T (so_far b) → length places ≡ 8 → first_failing (field_checks b (rule h places)) ≡ 0
    → T (so_far (taking b (rule h places)))
unfolding taking
so_far-rule b h places g l c =
    so_far-of (taking b (rule h places)) (so_far-atoms b g) (so_far-hypotheses b g)
    (rw (each_snoc (rule_passes b.atoms b.hypotheses) [] b.rules new) (and_both (rules_pass b.atoms b.hypotheses [] b.rules) _ (so_far-rules b g) (rule_passes-of b h places l c)))
  where
    new : Rule
    new = record { head = h; body = filled places }
