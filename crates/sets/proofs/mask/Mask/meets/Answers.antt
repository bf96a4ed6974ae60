-- `meets` meets its contract: two sets meet exactly if their low words or their high words share a digit. Assumes nothing.
use native.Mathlib.Omega.{arith}
use Rattle.sets.proofs.Laws.Masks.{meets-low-word, meets-high-word}
use Rattle.sets.proofs.mask.Mask.meets.Goals as goal

pub returns-then-self-other-ne0 : goal.returns-then-self-other-ne0
returns-then-self-other-ne0 c =
    let a = c.args in
    meets-low-word a.self a.other (omega arith) (omega arith) (omega arith) c.if-self-other-ne0.true

pub returns-else-self-other-ne0 : goal.returns-else-self-other-ne0
returns-else-self-other-ne0 c =
    let a = c.args in
    meets-high-word a.self a.other (omega arith) (omega arith) (omega arith) c.if-self-other-ne0.false
