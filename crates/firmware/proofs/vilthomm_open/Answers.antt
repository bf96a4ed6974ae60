-- `vilthomm_open` meets its contract: what opening answered, as a number and a search. Assumes nothing.
use Rattle.firmware.proofs.Laws.{opens-granted, opens-refused}
use Rattle.firmware.proofs.vilthomm_open.Goals as goal

pub returns-in-Ok : goal.returns-in-Ok
returns-in-Ok c = opens-granted _ c.in-Ok.search c.in-Ok.ensures.answers

pub returns-in-Err : goal.returns-in-Err
returns-in-Err c = rw (c.number.ensures, c.zero.ensures) (opens-refused _ _ c.in-Err.ensures.answers)
