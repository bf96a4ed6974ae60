-- `of` meets its contract: the set so far is that of the atoms passed. Assumes nothing.
use mathlib.Core.Path.{◌≡◌}
use lib.Dec.{ltb}
use lib.ListN.{take}
use Rattle.sets.specs.Lists.{keep}
use Rattle.sets.specs.Masks.{mask_means}
use Rattle.sets.specs.Sets.{most_atoms, set_of}
use Rattle.sets.proofs.mask.Mask.of.Given as goal

abbrev pub invariant-loop-a : goal.invariant-loop-a
invariant-loop-a l = mask_means l.set ≡ set_of (keep (λ a. ltb a most_atoms) (take l.a-index l.atoms))
