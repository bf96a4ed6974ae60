-- The parts of the test of a table field by field: the sizes, the hypotheses, each rule, W, and the unused room of each array. Assumes nothing.
use Prim.Native.Nat.{ℕ, ◌*◌, ◌≤◌, ◌<◌}
use mathlib.Core.Bool.{Bool}
use mathlib.Core.List.{List, []}
use lib.Dec.{T, leb, leb→le, le→leb}
use Rattle.sets.specs.Lists.{all, below, zero_from}
use Rattle.sets.proofs.Laws.Lists.{all_at}
use Rattle.sets.proofs.Laws.Lists.Indices.{below_of, all-below}
use Rattle.sets.proofs.Laws.Tests.{four_and, and_five, five_and}
use Rattle.board.specs.Sizes.{most_atoms, most_rules, most_body, most_w}
use Rattle.board.specs.Board.{Hypothesis, W}
use Rattle.board.specs.Table.{hypotheses_in, board_of}
use Rattle.board.specs.Private.Fields.{rule_stands, sizes_stand, room_stands}
use Rattle.board.proofs.Laws.Table.Fields.Whole.{sizes_of, room_of, fields_stand}
use Rattle.board.specs.Private.Passes.{hypotheses_pass}
use Rattle.board.specs.declared.Table.{Table}

-- the hypotheses that stand in a table's arrays
abbrev pub hypotheses_of : Table → List Hypothesis
hypotheses_of t = hypotheses_in t.declaration t.atom t.weight t.hypotheses

-- the test of rule j of a table
abbrev pub rule_of : Table → ℕ → Bool
rule_of t j = rule_stands t.atoms (hypotheses_of t) t.head t.body j

-- what the test of the fields asks for, part by part
pub record Stands (t : Table) : Type 0 where
  pub sizes : T (sizes_of t)
  pub hypotheses : T (hypotheses_pass t.atoms [] (hypotheses_of t))
  pub rules : (j : ℕ) → j < t.rules → T (rule_of t j)
  pub weight : W (board_of t) ≤ most_w
  pub room : T (room_of t)

-- a table that passes has them all
pub fields_stand→ : (t : Table) → T (fields_stand t) → Stands t
unfolding fields_stand
fields_stand→ t s =
    let k = five_and (sizes_of t) (hypotheses_pass t.atoms [] (hypotheses_of t)) (all (rule_of t) (below t.rules)) (leb (W (board_of t)) most_w) (room_of t) s in
    record { sizes = k.0; hypotheses = k.1; rules = λ j l. all_at (rule_of t) k.2 (below_of l); weight = leb→le (W (board_of t)) most_w k.3; room = k.4 }

-- a table that has them all passes
pub →fieldsStand : (t : Table) → Stands t → T (fields_stand t)
unfolding fields_stand
→fieldsStand t s =
    and_five (sizes_of t) (hypotheses_pass t.atoms [] (hypotheses_of t)) (all (rule_of t) (below t.rules)) (leb (W (board_of t)) most_w) (room_of t)
    (s.sizes, s.hypotheses, all-below (rule_of t) t.rules s.rules, le→leb (W (board_of t)) most_w s.weight, s.room)

-- the sizes, one by one
pub sizes_parts : (t : Table) → T (sizes_of t) → (1 ≤ t.atoms) × (t.atoms ≤ most_atoms) × (t.hypotheses ≤ most_atoms) × (t.rules ≤ most_rules)
unfolding sizes_stand
sizes_parts t s =
    let k = four_and (leb 1 t.atoms) (leb t.atoms most_atoms) (leb t.hypotheses most_atoms) (leb t.rules most_rules) s in
    (leb→le 1 t.atoms k.0, leb→le t.atoms most_atoms k.1, leb→le t.hypotheses most_atoms k.2, leb→le t.rules most_rules k.3)

-- the unused room, array by array
abbrev pub RoomParts : Table → Type 0
RoomParts t =
    T (zero_from t.hypotheses t.declaration) × T (zero_from t.hypotheses t.atom) × T (zero_from t.hypotheses t.weight)
    × T (zero_from t.rules t.head) × T (zero_from (most_body * t.rules) t.body)

-- unused room that stands is zero in each array
pub room_parts : (t : Table) → T (room_of t) → RoomParts t
unfolding room_stands
room_parts t s =
    five_and (zero_from t.hypotheses t.declaration) (zero_from t.hypotheses t.atom) (zero_from t.hypotheses t.weight)
    (zero_from t.rules t.head) (zero_from (most_body * t.rules) t.body) s

-- .. the other way round
pub parts_room : (t : Table) → RoomParts t → T (room_of t)
unfolding room_stands
parts_room t z =
    and_five (zero_from t.hypotheses t.declaration) (zero_from t.hypotheses t.atom) (zero_from t.hypotheses t.weight)
    (zero_from t.rules t.head) (zero_from (most_body * t.rules) t.body) z
