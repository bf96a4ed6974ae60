-- `vilthomm_load` meets its contract: what loading answered, as a number, a place and a table. Assumes nothing.
use Rattle.firmware.proofs.Laws.{loads-accepted, loads-refused}
use Rattle.firmware.proofs.vilthomm_load.Goals as goal

pub returns-in-Ok : goal.returns-in-Ok
returns-in-Ok c = loads-accepted _ c.in-Ok.table c.in-Ok.ensures.answers

pub returns-in-Err : goal.returns-in-Err
returns-in-Err c = rw (c.number.ensures, c.zero.ensures) (loads-refused _ _ c.in-Err.refused.place c.in-Err.ensures.answers)
