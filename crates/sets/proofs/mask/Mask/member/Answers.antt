-- `member` meets its contract: the digit looked at is the atom's, in the word that the atom belongs to. Assumes nothing.
use native.Mathlib.Omega.{arith}
use Prim.Native.Nat.{◌-◌}
use mathlib.Core.Path.{sym, ◌∙◌}
use Rattle.sets.specs.Masks.{mask_means}
use Rattle.sets.proofs.Laws.Masks.{digit_member, member-low-word, member-high-word, member_past}
use Rattle.sets.proofs.mask.Mask.member.Goals as goal

pub returns-then-a-lt64 : goal.returns-then-a-lt64
unfolding mask_means
returns-then-a-lt64 c =
    let a = c.args in
    digit_member a.a a.self.low ∙ member-low-word a.self.low a.self.high (omega arith) a.a (omega arith)

pub returns-then-a-lt128 : goal.returns-then-a-lt128
unfolding mask_means
returns-then-a-lt128 c =
    let a = c.args in
    digit_member (a.a - 64) a.self.high ∙ member-high-word a.self.low a.self.high (omega arith) a.a (omega arith)

pub returns : goal.returns
returns c = let a = c.args in sym (member_past a.self (omega arith) (omega arith) a.a (omega arith))
