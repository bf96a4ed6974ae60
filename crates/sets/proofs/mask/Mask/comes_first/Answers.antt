-- `comes_first` meets its contract: the low words decide where they differ, else the high ones. Assumes nothing.
use native.Mathlib.Omega.{arith}
use mathlib.Core.Path.{◌∙◌}
use Rattle.sets.specs.Masks.{mask_means}
use Rattle.sets.proofs.Laws.Masks.Counts.{lowest_first-low, lowest_first-high}
use Rattle.sets.proofs.mask.Mask.comes_first.Goals as goal

pub returns-then-self-other : goal.returns-then-self-other
unfolding mask_means
returns-then-self-other c =
    let a = c.args in
    c.word_comes_first.ensures
    ∙ lowest_first-high a.self.low a.self.high a.other.low a.other.high (omega arith) (omega arith) c.if-self-other.true (omega arith) (omega arith)

pub returns : goal.returns
unfolding mask_means
returns c =
    let a = c.args in
    c.word_comes_first-2.ensures
    ∙ lowest_first-low a.self.low a.self.high a.other.low a.other.high (omega arith) (omega arith) c.if-self-other.false
