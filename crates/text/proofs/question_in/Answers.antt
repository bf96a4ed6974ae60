-- `question_in` meets its contract: no byte, too few for the count, too few for the allowance, enough. Assumes nothing.
use native.Mathlib.Omega.{arith}
use Rattle.text.proofs.Laws.Answered.{asked-none, asked_short, asked-whole}
use Rattle.text.proofs.question_in.Goals as goal

pub returns-in_err-count : goal.returns-in_err-count
returns-in_err-count c b = rw c.from_residual.ensures (asked-none b c.args.input.now c.in_err-count.ensures.cases)

pub returns-in_err-question : goal.returns-in_err-question
returns-in_err-question c b =
    let first = c.in_ok-count in
    rw (c.from_residual-in_err-question.ensures, first.ensures.cases.0)
    (asked_short b first.count.now first.rest.now (omega (arith, c.from.ensures, c.in_err-question.ensures.cases)))

pub returns-in_default : goal.returns-in_default
returns-in_default c b =
    let first = c.in_ok-count in
    rw first.ensures.cases.0 (asked_short b first.count.now first.rest.now (omega (arith, c.from.ensures, c.in_ok-question.ensures.cases.4)))

pub returns : goal.returns
returns c b =
    let first = c.in_ok-count in
    let split = c.in_ok-question.ensures.cases in
    rw (first.ensures.cases.0, ← c.from.ensures, split.1)
    (asked-whole b c.from.result first.rest.now c.from_le_bytes.result (omega (arith, split.4)) (rw (← split.2) (omega (arith, c.from_le_bytes.ensures))))
