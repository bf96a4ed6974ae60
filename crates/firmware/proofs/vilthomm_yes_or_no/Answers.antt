-- `vilthomm_yes_or_no` meets its contract: the yes-or-no's answer as numbers. Assumes nothing.
use Rattle.std.proofs.Common.{ap, ◌∙◌, rules}
use Rattle.firmware.specs.Answers.{holds_answer}
use Rattle.firmware.proofs.Laws.{held}
use Rattle.firmware.proofs.vilthomm_yes_or_no.Goals as goal

pub returns : goal.returns
returns c =
    let given = c.number_and_value-number.ensures in
    rw (given.number, given.value) (held _ (λ b n made. search rules) c.yes_or_no.result c.map.result c.map.ensures.cases ∙ ap holds_answer c.yes_or_no.ensures)
