-- A set of atoms as code holds it, in two words, and the set that it means. Assumes nothing.
use Rattle.std.specs.Prelude.{ℕ, cond, ltb}
use Rattle.sets.specs.Sets.{most_atoms, with, words}
use Rattle.sets.specs.declared.mask.Mask.{Mask}

-- the set of a mask: atoms 0 to 63 in the low word, 64 to 127 in the high one
unfoldable pub mask_means : Mask → ℕ
mask_means m = words m.low m.high

-- s and a; "1 to 128 atoms, numbered from 0", so there is no atom past 127, and such a number joins nothing
unfoldable pub with_atom : ℕ → ℕ → ℕ
with_atom a s = cond (ltb a most_atoms) (with a s) s
