-- `number_and_value` meets its contract, case by case. Assumes nothing.
use borrow.Author.Rules.{rules}
use Rattle.firmware.specs.Answers.{number_of, granted_number}
use Rattle.firmware.proofs.number_and_value.Goals as goal

pub returns-in-Ok : goal.returns-in-Ok
unfolding number_of granted_number
returns-in-Ok c = record { number = search rules; value = search rules }

pub returns-in-Err : goal.returns-in-Err
unfolding number_of granted_number
returns-in-Err c = record { number = rw c.in-Err.is c.number.ensures; value = search rules }
