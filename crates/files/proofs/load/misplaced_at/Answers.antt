-- `misplaced_at` meets its contract: its tests are those of `misplaced_at`. Assumes nothing.
use Rattle.std.proofs.Common.{arith}
use Rattle.std.proofs.lemmas.Grind.{common_steps}
use Rattle.board.specs.Load.{misplaced_at}
use Rattle.files.proofs.Laws.Kinds.{known_number}
use Rattle.files.proofs.load.misplaced_at.Goals as goal
use Rattle.files.proofs.load.misplaced_at.Goals.{in_default-via-in-None-1, in_default-via-in-Some+in-Err-1}

pub returns : goal.returns
unfolding misplaced_at
returns c b k =
    let n = known_number c.in-Ok.kind in
    let m = c.is_misplaced.ensures b k in
    grind (arith, common_steps)

pub returns-2 : goal.returns-2
unfolding misplaced_at
returns-2 c b k =
    elim c.in_default.branch [
      | in_default-via-in-None-1 w ↦ grind (arith, common_steps)
      | in_default-via-in-Some+in-Err-1 w ↦ grind (arith, common_steps)
    ]
