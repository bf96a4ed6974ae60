-- `subset` meets its contract: no digit of the one set is left beside those of the other. Assumes nothing.
use native.Mathlib.Omega.{arith}
use Rattle.sets.proofs.Laws.Masks.{subset-words}
use Rattle.sets.proofs.mask.Mask.subset.Goals as goal

pub returns : goal.returns
returns c =
    let a = c.args in
    subset-words a.self a.other (omega arith) (omega arith)
