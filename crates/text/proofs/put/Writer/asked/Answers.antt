-- `asked` meets its contract: an input that has a question. Assumes nothing.
use Rattle.board.specs.Table.{board_of}
use Rattle.board.proofs.Promise.{is_table-stored}
use Rattle.text.proofs.put.Writer.asked.Goals as goal

pub opened-requires : goal.opened-requires
opened-requires c =
    let t = c.args.accepted.table.now in
    rw (c.in-Some.ensures (board_of t), ← is_table-stored t c.args.accepted.loads) at c.requires

pub returns-in-Some : goal.returns-in-Some
returns-in-Some c =
    let t = c.args.accepted.table.now in
    rw (c.in-Some.ensures (board_of t), ← is_table-stored t c.args.accepted.loads) c.opened.ensures
