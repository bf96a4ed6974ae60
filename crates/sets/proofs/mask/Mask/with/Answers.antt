-- `with` meets its contract: the atom goes into the word that it belongs to. Assumes nothing.
use native.Mathlib.Omega.{arith}
use mathlib.Core.Path.{sym}
use Rattle.sets.specs.Masks.{mask_means}
use Rattle.sets.proofs.Laws.Masks.{with-low-word, with-high-word, with_atom_past}
use Rattle.sets.proofs.mask.Mask.with.Goals as goal

pub returns-then-a-lt64 : goal.returns-then-a-lt64
returns-then-a-lt64 c = let a = c.args in with-low-word a.self (omega arith) a.a (omega arith)

pub returns-then-a-gt127 : goal.returns-then-a-gt127
returns-then-a-gt127 c = let a = c.args in sym (with_atom_past a.a (mask_means a.self) (omega arith))

pub returns : goal.returns
returns c = let a = c.args in with-high-word a.self (omega arith) a.a (omega arith) (omega arith)
