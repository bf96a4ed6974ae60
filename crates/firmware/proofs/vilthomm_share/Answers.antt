-- `vilthomm_share` meets its contract: the share's answer as numbers. Assumes nothing.
use mathlib.Core.Path.{ap}
use Rattle.firmware.specs.Answers.{share_answer}
use Rattle.firmware.proofs.vilthomm_share.Goals as goal

pub returns : goal.returns
unfolding share_answer
returns c =
    let number = c.number_and_value-number.ensures.number in
    let value = c.number_and_value-number.ensures.value in
    let share = ap share_answer c.share.ensures in
    cc
