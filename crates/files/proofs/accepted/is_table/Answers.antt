-- `is_table` meets its contract: `is_table` is what the fields' test finds, of arrays that have their lengths; and the code's tests, in their order, are
-- its parts. Assumes nothing.
use borrow.Author.Rules.{rules}
use native.Mathlib.Omega.{arith}
use mathlib.Core.Path.{◌≡◌, sym, ap, ◌∙◌}
use mathlib.Core.Bool.{◌&&◌}
use Prim.Native.Nat.{ℕ, min}
use lib.Dec.{leb}
use Rattle.std.proofs.lemmas.Grind.{common_steps}
use Rattle.sets.specs.Lists.{all, below}
use Rattle.sets.proofs.Laws.Tests.{and_then, and_else}
use Rattle.board.specs.Sizes.{most_w}
use Rattle.board.specs.Board.{W}
use Rattle.board.specs.Table.{rules_in, board_of}
use Rattle.board.specs.Private.Fields.{sizes_stand}
use Rattle.board.proofs.Laws.Table.Fields.Whole.{Sized, fields_stand}
use Rattle.board.proofs.Laws.Capped.{capped_within}
use Rattle.board.proofs.Laws.Table.Fields.{is_table_fields}
use Rattle.board.proofs.Laws.Table.Fields.Parts.{rule_of}
use Rattle.files.proofs.accepted.is_table.Goals as goal
use Rattle.files.proofs.accepted.is_table.Goals.{After-contains, Joined-rules_pass, then-rules_pass, else-rules_pass}

-- the arrays have their lengths
sized : (c : After-contains) → Sized c.args.t.now
sized c = record { declaration = search rules; atom = search rules; weight = search rules; head = search rules; body = search rules }

pub returns-then-not-contains : goal.returns-then-not-contains
unfolding fields_stand sizes_stand
returns-then-not-contains c =
    let e = is_table_fields c.args.t.now (sized (goal.at.returns-then-not-contains c).After-contains) in
    grind (arith, common_steps)

pub returns-in_default : goal.returns-in_default
unfolding fields_stand
returns-in_default c =
    let e = is_table_fields c.args.t.now (sized (goal.at.returns-in_default c).After-contains) in
    let h = c.in_default.ensures in
    grind (arith, common_steps)

-- the tests of the rules and of W
both : (c : Joined-rules_pass) → let t = c.args.t.now in
    c.if-rules_pass.value ≡ (all (rule_of t) (below t.rules) && leb (W (board_of t)) most_w)
unfolding board_of
both c =
    let t = c.args.t.now in
    let whole : min t.hypotheses 128 ≡ t.hypotheses = omega arith in
    let rules_stand = c.rules_pass.ensures _ c.in-Some.ensures.1 in
    elim c.if-rules_pass.branch [
      | then-rules_pass w ↦
          let weight = rw whole at (w.whole_weight.ensures t.atoms t.atom (rules_in t.head t.body t.rules)) in
          and_then (sym rules_stand ∙ w.if-rules_pass.true) (w.value-is ∙ ap (λ (v : ℕ). leb v most_w) weight ∙ capped_within most_w (W (board_of t)))
      | else-rules_pass w ↦ and_else _ (sym rules_stand ∙ w.if-rules_pass.false) (w.value-is ∙ rules_stand)
    ]

pub returns-then-whole_weight-le-MOST_W : goal.returns-then-whole_weight-le-MOST_W
unfolding fields_stand sizes_stand
returns-then-whole_weight-le-MOST_W c =
    let at = goal.at.returns-then-whole_weight-le-MOST_W c in
    let e = is_table_fields c.args.t.now (sized at.After-contains) in
    let h = c.in-Some.ensures in
    let f = both at.Joined-rules_pass in
    grind (arith, common_steps)

pub returns-else-whole_weight-le-MOST_W : goal.returns-else-whole_weight-le-MOST_W
unfolding fields_stand sizes_stand
returns-else-whole_weight-le-MOST_W c =
    let at = goal.at.returns-else-whole_weight-le-MOST_W c in
    let e = is_table_fields c.args.t.now (sized at.After-contains) in
    let h = c.in-Some.ensures in
    let f = both at.Joined-rules_pass in
    grind (arith, common_steps)
