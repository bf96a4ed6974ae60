-- `rule_passes` meets its contract: the rules before it are as many as its number says. Assumes nothing.
use Rattle.std.proofs.Common.{ap, sym, ◌∙◌}
use lib.Dec.{eqb}
use Rattle.board.specs.Private.Fields.{rule_stands}
use Rattle.board.specs.Private.Passes.{record_passes}
use Rattle.board.specs.Table.{rules_in}
use Rattle.board.proofs.Laws.Lent.{length-rules_in}
use Rattle.files.proofs.Laws.Failed.{passed-zero}
use Rattle.files.proofs.Laws.Seen.{seen_rules}
use Rattle.files.proofs.accepted.rule_passes.Goals as goal

pub returns : goal.returns
unfolding rule_stands record_passes
returns c b k =
    let t = c.args.t.now in
    let j = c.args.j in
    let stands = c.rule_check.ensures _ (seen_rules k (rules_in t.head t.body j) j (sym (length-rules_in t.head t.body j))) in
    c.is_ok.ensures.value ∙ passed-zero c.rule_check.result ∙ ap (λ n. eqb n 0) (rw c.eight_bytes-places.ensures at stands)
