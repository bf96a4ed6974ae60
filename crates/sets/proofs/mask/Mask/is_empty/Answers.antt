-- `is_empty` meets its contract: a set is empty exactly if both words are. Assumes nothing.
use native.Mathlib.Omega.{arith}
use Rattle.sets.specs.Masks.{mask_means}
use Rattle.sets.proofs.Laws.Masks.{eqb_high_word, eqb_low_word}
use Rattle.sets.proofs.mask.Mask.is_empty.Goals as goal

pub returns-then-self-eq0 : goal.returns-then-self-eq0
unfolding mask_means
returns-then-self-eq0 c = let s = c.args.self in eqb_high_word s.low s.high 0 0 (omega arith) (omega arith) c.if-self-eq0.true

pub returns-else-self-eq0 : goal.returns-else-self-eq0
unfolding mask_means
returns-else-self-eq0 c = let s = c.args.self in eqb_low_word s.low s.high 0 0 (omega arith) (omega arith) c.if-self-eq0.false
