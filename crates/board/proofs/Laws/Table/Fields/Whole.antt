-- The test of a whole table field by field, as the code makes it, from the tests that its functions make: `is_table` says what it has to come out as.
-- Assumes nothing.
use Prim.Native.Nat.{◌*◌}
use mathlib.Core.Path.{◌≡◌}
use mathlib.Core.Bool.{Bool, ◌&&◌}
use mathlib.Core.List.{[]}
use lib.Dec.{leb}
use lib.ListN.{length}
use Rattle.sets.specs.Lists.{all, below}
use Rattle.board.specs.Sizes.{most_atoms, most_rules, most_body, most_w}
use Rattle.board.specs.Board.{W}
use Rattle.board.specs.Table.{hypotheses_in, board_of}
use Rattle.board.specs.Private.Fields.{rule_stands, sizes_stand, room_stands}
use Rattle.board.specs.Private.Passes.{hypotheses_pass}
use Rattle.board.specs.declared.Table.{Table}

-- the arrays have the lengths that the code declares
pub record Sized (t : Table) : Type 0 where
  pub declaration : length t.declaration ≡ most_atoms
  pub atom : length t.atom ≡ most_atoms
  pub weight : length t.weight ≡ most_atoms
  pub head : length t.head ≡ most_rules
  pub body : length t.body ≡ most_body * most_rules

-- the counts of a whole table
abbrev pub sizes_of : Table → Bool
sizes_of t = sizes_stand t.atoms t.hypotheses t.rules

-- its room past the counts
abbrev pub room_of : Table → Bool
room_of t = room_stands t.hypotheses t.rules t.declaration t.atom t.weight t.head t.body

-- the whole test
unfoldable pub fields_stand : Table → Bool
fields_stand t =
    sizes_of t
    && hypotheses_pass t.atoms [] (hypotheses_in t.declaration t.atom t.weight t.hypotheses)
    && all (rule_stands t.atoms (hypotheses_in t.declaration t.atom t.weight t.hypotheses) t.head t.body) (below t.rules)
    && leb (W (board_of t)) most_w
    && room_of t
