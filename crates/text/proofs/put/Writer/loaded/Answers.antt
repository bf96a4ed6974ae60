-- `loaded` meets its contract: an accepted file, a refused one. Assumes nothing.
use native.Mathlib.Omega.{arith}
use lib.Dec.{T}
use Rattle.board.specs.Table.{board_of, is_table}
use Rattle.board.proofs.Promise.{is_table-board, are_bytes_of}
use Rattle.text.proofs.Laws.Length.{asked-length, refused-file-length, refusal-few}
use Rattle.text.proofs.Laws.Answered.{loaded-refused, loaded-table, loaded-asked}
use Rattle.text.proofs.put.Writer.loaded.Goals as goal
use Rattle.text.proofs.put.Writer.loaded.Goals.{In-Ok}

-- the table is one that some file loads to
stands : (c : In-Ok) → T (is_table c.in-Ok.t)
stands c =
    let file = c.args.file.now in
    loaded-table file c.args.input.now (are_bytes_of file (λ i. omega (arith, c.type_inv.file i))) c.in-Ok.t c.in-Ok.ensures.answers

pub invariant_of-asked : goal.invariant_of-asked
invariant_of-asked c = record { loads = stands (goal.at.invariant_of-asked c).In-Ok }

pub asked-requires : goal.asked-requires
asked-requires c =
    let t = c.in-Ok.t in
    let some_table = stands (goal.at.asked-requires c).In-Ok in
    omega (arith, asked-length (board_of t) (is_table-board t some_table) c.args.input.now (λ i. omega (arith, c.type_inv.input i)))

pub returns-in-Ok : goal.returns-in-Ok
returns-in-Ok c =
    let file = c.args.file.now in
    rw (loaded-asked file c.args.input.now (are_bytes_of file (λ i. omega (arith, c.type_inv.file i))) c.in-Ok.t c.in-Ok.ensures.answers) c.asked.ensures

pub refused_file-requires : goal.refused_file-requires
refused_file-requires c =
    omega (arith, refused-file-length _ c.in-Err.refused.place (refusal-few c.in-Err.refused.refusal) (omega arith))

pub returns-in-Err : goal.returns-in-Err
returns-in-Err c = rw (loaded-refused c.args.file.now c.args.input.now _ _ c.in-Err.ensures.answers) c.refused_file.ensures
