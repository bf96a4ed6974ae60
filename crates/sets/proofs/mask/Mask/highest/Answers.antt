-- `highest` meets its contract: the highest one of the high word, or else of the low one. Assumes nothing.
use native.Mathlib.Omega.{arith}
use lib.Count.{leading_le, leading_top}
use Rattle.sets.proofs.Laws.Masks.Counts.{highest-high-word, highest-low-word, highest_no_word}
use Rattle.sets.proofs.mask.Mask.highest.Goals as goal

pub returns-then-self-gt0 : goal.returns-then-self-gt0
returns-then-self-gt0 c = highest-high-word c.args.self (omega arith) (omega arith) (omega arith)

pub overflow_sub-result-then-self-gt0-2 : goal.overflow_sub-result-then-self-gt0-2
overflow_sub-result-then-self-gt0-2 c =
    let s = c.args.self in
    let (j, zeros, least, most) = leading_top 64 s.low (omega arith) (omega arith) in
    omega arith

pub returns-then-self-gt0-2 : goal.returns-then-self-gt0-2
returns-then-self-gt0-2 c = highest-low-word c.args.self (omega arith) (omega arith) (omega arith) (omega arith)

pub returns : goal.returns
returns c = highest_no_word c.args.self (omega arith) (omega arith)

pub overflow_cast-result : goal.overflow_cast-result
overflow_cast-result c = omega (arith, leading_le 64 c.args.self.high)

pub overflow_sub-result : goal.overflow_sub-result
overflow_sub-result c = omega (arith, leading_le 64 c.args.self.high)

pub overflow_cast-result-then-self-gt0-2 : goal.overflow_cast-result-then-self-gt0-2
overflow_cast-result-then-self-gt0-2 c = omega (arith, leading_le 64 c.args.self.low)
