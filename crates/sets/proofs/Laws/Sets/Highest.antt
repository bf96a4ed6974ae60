-- The highest atom of a set: it is a member, no member is higher, and a set falls when its highest atom is replaced by lower ones.
-- Assumes nothing.
use Prim.Native.Nat.{ℕ, zero, suc, ◌≤◌, ◌<◌}
use native.Mathlib.Nat.{not-suc-le-zero}
use native.Mathlib.Omega.{arith}
use mathlib.Core.Path.{◌≡◌, refl, sym, ap, ◌∙◌, subst}
use mathlib.Core.Bool.{Bool, true, false}
use lib.Dec.{T}
use Rattle.sets.proofs.Laws.Tests.{T_of_true, false_of_T}
use Rattle.sets.specs.Sets.{most_atoms}
use Rattle.sets.specs.Sets.{member, union, without, all_below, highest_below, highest}
use Rattle.sets.proofs.Laws.Sets.Digits.{member_empty, set_ext, all_below_at}
use Rattle.sets.proofs.Laws.Sets.Bounds.{replaced_less}

-- where s has an atom below n, the highest of those is a member, and the atom is no higher
highest_below_at : (n s a : ℕ) → a < n → T (member a s) → T (member (highest_below n s) s) × (a ≤ highest_below n s)
unfolding highest_below
highest_below_at zero s a l h = absurd (not-suc-le-zero l)
highest_below_at (suc n) s a l h = go (member n s) refl (highest_below_at n s a)
  where
    top : Bool → ℕ
    top t = elim t [ true ↦ n | false ↦ highest_below n s ]

    go : (t : Bool) → member n s ≡ t → (a < n → T (member a s) → T (member (highest_below n s) s) × (a ≤ highest_below n s)) → T (member (top t) s) × (a ≤ top t)
    go true e rest = (T_of_true e, omega arith)
    go false e rest =
        let f : a ≡ n → ⊥ = λ q. subst T (ap (λ (x : ℕ). member x s) q ∙ e) h in
        rest (omega arith) h

-- of no atoms the highest is given as 0
highest_below_empty : (n : ℕ) → highest_below n 0 ≡ 0
unfolding highest_below
highest_below_empty zero = refl
highest_below_empty (suc n) = rw (member_empty n, highest_below) (highest_below_empty n)

-- the empty set's highest atom is given as 0
pub highest_empty : highest 0 ≡ 0
unfolding highest
highest_empty = highest_below_empty most_atoms

-- the highest atom of a set that is not empty is a member
pub highest-member : (s : ℕ) → T (all_below most_atoms s) → (s ≡ 0 → ⊥) → T (member (highest s) s)
unfolding highest
highest-member s b f = go (member (highest_below most_atoms s) s) refl
  where
    none : member (highest_below most_atoms s) s ≡ false → (a : ℕ) → member a s ≡ member a 0
    none e a =
        false_of_T (member a s) (λ h. subst T e (highest_below_at most_atoms s a (all_below_at most_atoms s a b h) h).0) ∙ sym (member_empty a)

    go : (t : Bool) → member (highest_below most_atoms s) s ≡ t → T (member (highest_below most_atoms s) s)
    go true e = T_of_true e
    go false e = absurd (f (set_ext (none e)))

-- no atom of a set is higher than its highest
pub highest-most : (s a : ℕ) → T (all_below most_atoms s) → T (member a s) → a ≤ highest s
unfolding highest
highest-most s a b h = (highest_below_at most_atoms s a (all_below_at most_atoms s a b h) h).1

-- a set falls when its highest atom is replaced by lower ones
pub highest-replaced_less : (s t : ℕ) → T (all_below most_atoms s) → (s ≡ 0 → ⊥) → T (all_below (highest s) t) → union (without (highest s) s) t < s
highest-replaced_less s t b f k = replaced_less (highest s) s t (highest-member s b f) (λ a h. highest-most s a b h) k
