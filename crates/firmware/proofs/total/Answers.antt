-- `total` meets its contract: of an accepted table, what `whole_weight` answers is W. Assumes nothing.
use Rattle.std.proofs.Common.{◌∙◌, [], rules}
use Rattle.board.proofs.Promise.{table-weight}
use Rattle.firmware.specs.Answers.{total_of}
use Rattle.firmware.proofs.total.Goals as goal

pub returns-in_err-accepted : goal.returns-in_err-accepted
unfolding total_of
returns-in_err-accepted c = search rules

pub returns : goal.returns
unfolding total_of
returns c =
    let loaded = c.in_ok-accepted in
    let t = loaded.accepted.table.now in
    let weight = rw loaded.ensures at (c.whole_weight.ensures 0 [] [] ∙ table-weight t loaded.accepted.loads 0 [] []) in
    search rules
