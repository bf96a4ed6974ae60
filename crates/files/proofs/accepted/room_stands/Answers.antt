-- `room_stands` meets its contract: its tests, in their order, are those of the definition. Assumes nothing.
use Rattle.std.proofs.Common.{arith}
use Rattle.std.proofs.lemmas.Grind.{common_steps}
use Rattle.board.specs.Private.Fields.{room_stands}
use Rattle.files.proofs.accepted.room_stands.Goals as goal

pub returns-then-zero_from-4 : goal.returns-then-zero_from-4
unfolding room_stands
returns-then-zero_from-4 c = grind (arith, common_steps)

pub returns-else-zero_from-4 : goal.returns-else-zero_from-4
unfolding room_stands
returns-else-zero_from-4 c = grind (arith, common_steps)
