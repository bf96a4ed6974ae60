-- `size` meets its contract: the ones of both words. Assumes nothing.
use native.Mathlib.Omega.{arith}
use lib.Count.{ones-le}
use Rattle.sets.proofs.Laws.Masks.Counts.{size-words}
use Rattle.sets.proofs.mask.Mask.size.Goals as goal

pub overflow_add-result : goal.overflow_add-result
overflow_add-result c =
    let s = c.args.self in
    omega (arith, ones-le 64 s.low (omega arith), ones-le 64 s.high (omega arith))

pub overflow_cast-result : goal.overflow_cast-result
overflow_cast-result c =
    let s = c.args.self in
    omega (arith, ones-le 64 s.low (omega arith), ones-le 64 s.high (omega arith))

pub returns : goal.returns
returns c = size-words c.args.self (omega arith) (omega arith)
