-- `empty` meets its contract: two words of 0 mean the set of no atoms. Assumes nothing.
use borrow.Author.Rules.{rules}
use Rattle.sets.specs.Masks.{mask_means}
use Rattle.sets.proofs.mask.Mask.empty.Goals as goal

pub returns : goal.returns
unfolding mask_means
returns c = search rules
