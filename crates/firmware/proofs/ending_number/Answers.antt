-- `ending_number` meets its contract, case by case. Assumes nothing.
use borrow.Author.Rules.{rules}
use Rattle.search.specs.EntryPoints.{ending_means}
use Rattle.firmware.specs.Answers.{ending_number}
use Rattle.firmware.proofs.ending_number.Goals as goal

pub returns-in-Done : goal.returns-in-Done
unfolding ending_number ending_means
returns-in-Done c = search rules

pub returns-in-More : goal.returns-in-More
unfolding ending_number ending_means
returns-in-More c = search rules

pub returns-in-Refused : goal.returns-in-Refused
unfolding ending_number ending_means
returns-in-Refused c = rw c.in-Refused.is c.number.ensures
