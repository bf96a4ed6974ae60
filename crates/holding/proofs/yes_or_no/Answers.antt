-- `yes_or_no` meets its contract: its tests, in their order, are those of `yes_or_no`. Assumes nothing.
use Rattle.std.proofs.Common.{rules, arith}
use Rattle.board.specs.EntryPoints.{yes_or_no}
use Rattle.holding.proofs.Laws.Remembered.{table-sizes}
use Rattle.holding.proofs.yes_or_no.Goals as goal

pub returns-in_err-accepted : goal.returns-in_err-accepted
unfolding yes_or_no
returns-in_err-accepted c = search rules

pub returns-then-not-is_state : goal.returns-then-not-is_state
unfolding yes_or_no
returns-then-not-is_state c = search rules

pub returns-then-t-from : goal.returns-then-t-from
unfolding yes_or_no
returns-then-t-from c = search rules

pub holds_in-requires : goal.holds_in-requires
holds_in-requires c =
    let loaded = c.in_ok-accepted in
    omega (arith, rw loaded.ensures at (table-sizes loaded.accepted.table.now loaded.accepted.loads))

pub returns : goal.returns
unfolding yes_or_no
returns c = search rules
