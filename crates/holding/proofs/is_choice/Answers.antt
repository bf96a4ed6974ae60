-- `is_choice` meets its contract: the chain asks each hypothesis for the declaration and the atom. Assumes nothing.
use Rattle.std.proofs.Common.{rules, tests, arith, ◌∙◌}
use Rattle.std.proofs.iter.Serving.{serving}
use Rattle.std.proofs.lemmas.Iterator.{YieldsList-from_range}
use Rattle.std.proofs.lemmas.Iterator.Search.{any_from_yields_List}
use Rattle.board.specs.Table.{board_of}
use Rattle.holding.proofs.Laws.Remembered.{table-sizes}
use Rattle.holding.proofs.Laws.Choices.{is_at, by_range}
use Rattle.holding.proofs.is_choice.Goals as goal

pub returns : goal.returns
unfolding board_of
returns c =
    let t = c.args.accepted.table.now in
    any_from_yields_List (is_at t.declaration t.atom c.args.d c.args.a) _ _ _ c.any.ensures.ran
    (YieldsList-from_range 0 t.hypotheses t.hypotheses (cc) (omega arith)) (λ k b f h. search (rules, tests))
    ∙ by_range t.declaration t.atom t.weight t.hypotheses c.args.d c.args.a

pub any-requires-clause-callable : goal.any-requires-clause-callable
any-requires-clause-callable c =
    let few = table-sizes _ c.args.accepted.loads in
    grind serving
