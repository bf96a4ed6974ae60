-- `word_comes_first` meets its contract: the digit looked at is the lowest in which the words differ. Assumes nothing.
use native.Mathlib.Omega.{arith}
use mathlib.Core.Path.{sym, ◌∙◌}
use lib.Bits.{bit_xor}
use lib.Count.{count_trailing_zeros, trailing_le}
use Rattle.sets.proofs.Laws.Dictionary.{difference_lowest, lowest_first_at, lowest_first-same}
use Rattle.sets.proofs.Laws.Masks.{digit_member}
use Rattle.sets.proofs.mask.word_comes_first.Goals as goal

pub returns-then-a-b : goal.returns-then-a-b
returns-then-a-b c = let a = c.args in rw c.if-a-b.true (sym (lowest_first-same a.b))

pub overflow_cast-result : goal.overflow_cast-result
overflow_cast-result c = let a = c.args in omega (arith, trailing_le 64 (bit_xor a.a a.b))

pub overflow_shr-result : goal.overflow_shr-result
overflow_shr-result c = let a = c.args in (difference_lowest 64 a.a a.b (omega arith) (omega arith) c.if-a-b.false).0

pub returns : goal.returns
returns c =
    let a = c.args in
    let at = count_trailing_zeros 64 (bit_xor a.a a.b) in
    let (less, lowest) = difference_lowest 64 a.a a.b (omega arith) (omega arith) c.if-a-b.false in
    digit_member at a.a ∙ sym (lowest_first_at a.a a.b at lowest (omega arith))
