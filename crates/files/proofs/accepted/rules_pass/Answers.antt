-- `rules_pass` meets its contract: the chain asks each rule. Assumes nothing.
use Rattle.std.proofs.Common.{rules, tests, arith, refl, ◌∙◌}
use Rattle.std.specs.List.{range_with_len}
use Rattle.std.proofs.lemmas.Iterator.{YieldsList-from_range}
use Rattle.std.proofs.lemmas.Iterator.Search.{all_from_yields_List}
use Rattle.sets.specs.Lists.{below}
use Rattle.sets.proofs.Laws.Lists.{list_all-all}
use Rattle.sets.proofs.Laws.Lists.Indices.{range_with_len-numbers_from}
use Rattle.board.specs.Private.Fields.{rule_stands}
use Rattle.files.proofs.accepted.rules_pass.Goals as goal

pub returns : goal.returns
unfolding below
returns c b k =
    let t = c.args.t.now in
    let stands = rule_stands b.atoms b.hypotheses t.head t.body in
    all_from_yields_List stands _ _ c.all.result c.all.ensures.ran (YieldsList-from_range 0 t.rules t.rules refl (omega arith))
    (λ j r q h. search (rules, tests, k))
    ∙ list_all-all stands (range_with_len 0 t.rules)
    ∙ rw range_with_len-numbers_from
