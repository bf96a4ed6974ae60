-- `union` meets its contract: word by word. Assumes nothing.
use native.Mathlib.Omega.{arith}
use Rattle.sets.specs.Masks.{mask_means}
use Rattle.sets.proofs.Laws.Masks.{union-words}
use Rattle.sets.proofs.mask.Mask.union.Goals as goal

pub returns : goal.returns
unfolding mask_means
returns c =
    let a = c.args in
    union-words a.self.low a.self.high a.other.low a.other.high (omega arith) (omega arith)
