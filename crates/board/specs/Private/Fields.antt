-- The tests of a table's parts, as the code makes them: `is_table` says what they have to come out as together. Assumes nothing.
use Rattle.std.specs.Prelude.{ℕ, ◌*◌, Bool, ◌&&◌, List, leb, get_or}
use Rattle.sets.specs.Lists.{zero_from}
use Rattle.board.specs.Sizes.{most_atoms, most_rules, most_body}
use Rattle.board.specs.Board.{Hypothesis}
use Rattle.board.specs.File.{rule}
use Rattle.board.specs.Table.{places_in, rules_in}
use Rattle.board.specs.Private.Passes.{record_passes}

-- the record of rule j, with its eight places as they stand, after the j rules before it
unfoldable pub rule_stands : ℕ → List Hypothesis → List ℕ → List ℕ → ℕ → Bool
rule_stands atoms hypotheses head body j =
    record_passes (record { atoms = atoms; hypotheses = hypotheses; rules = rules_in head body j })
    (rule (get_or head j 0) (places_in body j))

-- the three counts are within their limits
unfoldable pub sizes_stand : ℕ → ℕ → ℕ → Bool
sizes_stand atoms hypotheses rules = leb 1 atoms && leb atoms most_atoms && leb hypotheses most_atoms && leb rules most_rules

-- the room past so many hypotheses and rules is zero
unfoldable pub room_stands : ℕ → ℕ → List ℕ → List ℕ → List ℕ → List ℕ → List ℕ → Bool
room_stands hypotheses rules declaration atom weight head body =
    zero_from hypotheses declaration
    && zero_from hypotheses atom
    && zero_from hypotheses weight
    && zero_from rules head
    && zero_from (most_body * rules) body
