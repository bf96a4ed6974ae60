-- `holds_in` meets its contract: the rules of a table that some file loads to are sound, and nothing is found before the first question. Assumes nothing.
use Rattle.board.specs.Table.{board_of}
use Rattle.board.specs.Holds.{holds}
use Rattle.board.proofs.Laws.Table.Fields.{is_table_sized}
use Rattle.holding.proofs.Laws.Remembered.{remembered_none, table-sound}
use Rattle.holding.proofs.holds_in.Goals as goal

pub invariant_of-asking : goal.invariant_of-asking
invariant_of-asking c =
    let right = c.args.accepted.loads in
    record { sound = table-sound _ right (is_table_sized _ right).body; remembered = remembered_none _ 128 }

pub returns : goal.returns
unfolding board_of holds
returns c = c.atom_holds.ensures.value
