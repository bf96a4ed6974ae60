-- `vilthomm_total` meets its contract: the answer of `total` as numbers. Assumes nothing.
use mathlib.Core.Path.{ap}
use Rattle.firmware.specs.Answers.{total_answer}
use Rattle.firmware.proofs.vilthomm_total.Goals as goal

pub returns : goal.returns
unfolding total_answer
returns c =
    let number = c.number_and_value-number.ensures.number in
    let value = c.number_and_value-number.ensures.value in
    let total = ap total_answer c.total.ensures in
    cc
