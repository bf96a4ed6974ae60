-- The test of a table field by field comes out as `is_table`. Assumes nothing.
pub mod Boards
pub mod Parts
pub mod Stored
pub mod Whole
use mathlib.Core.Path.{◌≡◌}
use lib.Dec.{T}
use Rattle.sets.proofs.Laws.Tests.{T_ext}
use Rattle.board.proofs.Laws.Accepted.{passes-accepted}
use Rattle.board.specs.Table.{board_of, is_table}
use Rattle.board.proofs.Laws.Table.Fields.Whole.{Sized, fields_stand}
use Rattle.board.proofs.Laws.Table.Fields.Boards.{table_of_sized, table_of_stands}
use Rattle.board.proofs.Laws.Table.Fields.Parts.{Stands, fields_stand→, →fieldsStand}
use Rattle.board.proofs.Laws.Table.Fields.Stored.{stands_passes, stands_stored}
use Rattle.board.proofs.Laws.Table.{accepted-is_table, is_table-board, is_table-stored}
use Rattle.board.specs.declared.Table.{Table}

-- the fields of a table that passes stand
pub is_table_stands : (t : Table) → T (is_table t) → Stands t
is_table_stands t s = rw (is_table-stored t s) (table_of_stands (is_table-board t s))

-- its arrays have the lengths that the code declares
pub is_table_sized : (t : Table) → T (is_table t) → Sized t
is_table_sized t s = rw (is_table-stored t s) (table_of_sized (is_table-board t s))

-- a table passes exactly if its fields stand
pub is_table_fields : (t : Table) → Sized t → is_table t ≡ fields_stand t
is_table_fields t sized = T_ext (is_table t) (fields_stand t) (λ s. →fieldsStand t (is_table_stands t s)) back
  where
    back : T (fields_stand t) → T (is_table t)
    back s =
        let parts : Stands t = fields_stand→ t s in
        accepted-is_table (passes-accepted (board_of t) (stands_passes t sized parts)) t (stands_stored t sized parts)
