-- `without` meets its contract: the atom is cleared in the word that it belongs to. Assumes nothing.
use native.Mathlib.Omega.{arith}
use mathlib.Core.Path.{sym}
use Rattle.sets.proofs.Laws.Masks.{without-low-word, without-high-word, member_past}
use Rattle.sets.proofs.Laws.Sets.{without-not-member}
use Rattle.sets.specs.Masks.{mask_means}
use Rattle.sets.proofs.mask.Mask.without.Goals as goal

pub returns-then-a-lt64 : goal.returns-then-a-lt64
returns-then-a-lt64 c = let a = c.args in without-low-word a.self (omega arith) a.a (omega arith)

pub returns-then-a-lt128 : goal.returns-then-a-lt128
returns-then-a-lt128 c =
    let a = c.args in
    without-high-word a.self (omega arith) a.a (omega arith) (omega arith) (omega arith)

pub returns : goal.returns
returns c =
    let a = c.args in
    sym (without-not-member a.a (mask_means a.self) (member_past a.self (omega arith) (omega arith) a.a (omega arith)))
