-- Sets of atoms below a number, and the order of sets as numbers: which sets have their atoms below n, that a subset is no greater, what an
-- atom more or less does to the number, that a set falls when a member is taken out, and that it falls when its highest atom is
-- replaced by lower ones. Assumes nothing.
use Prim.Native.Nat.{ℕ, ◌+◌, ◌-◌, ◌^◌, ◌≤◌, ◌<◌}
use native.Mathlib.Nat.{lt_of_lt_of_le}
use native.Mathlib.Omega.{arith}
use mathlib.Core.Path.{◌≡◌, ap, ◌∙◌, subst}
use mathlib.Core.List.{List, Memᴰ}
use mathlib.Core.Logic.{⊎_elim}
use lib.Pow.{pow_pos}
use lib.Bits.{bit_or, bit_and, or_add_and, and_le_r}
use lib.Dec.{T, eqb→eq, ltb→lt}
use Rattle.sets.proofs.Laws.Tests.{true_of_T}
use Rattle.sets.proofs.Laws.Lists.{among_at}
use Rattle.sets.specs.Sets.{member, union, with, without, set_of, subset, all_below}
use Rattle.sets.proofs.Laws.Sets.Digits.{member_power, member_empty}
use Rattle.sets.proofs.Laws.Sets.{union-cases, union-subset, with_cases, without-left, without-same, member-set_of}
pub use Rattle.sets.proofs.Laws.Sets.Digits.{all_below_at, all_below-of}

-- ---- the atoms below a number

-- the empty set
pub all_below_empty : (n : ℕ) → T (all_below n 0)
all_below_empty n = all_below-of n 0 (λ a h. absurd (subst T (member_empty a) h))

-- a greater number
pub all_below_up : (n m s : ℕ) → n ≤ m → T (all_below n s) → T (all_below m s)
all_below_up n m s l h = all_below-of m s (λ a k. lt_of_lt_of_le (all_below_at n s a h k) l)

-- a union
pub all_below-union : (n s t : ℕ) → T (all_below n s) → T (all_below n t) → T (all_below n (union s t))
all_below-union n s t h k = all_below-of n (union s t) (λ a m. ⊎_elim (all_below_at n s a h) (all_below_at n t a k) (union-cases a s t m))

-- an atom more
pub all_below-with : (n a s : ℕ) → a < n → T (all_below n s) → T (all_below n (with a s))
all_below-with n a s l h =
    all_below-of n (with a s) (λ b m. ⊎_elim (all_below_at n s b h) (λ e. subst (λ (x : ℕ). x < n) (eqb→eq a b e) l) (with_cases b a s m))

-- an atom less
pub all_below-without : (n a s : ℕ) → T (all_below n s) → T (all_below n (without a s))
all_below-without n a s h = all_below-of n (without a s) (λ b m. all_below_at n s b h (without-left b a s m))

-- the atoms listed
pub all_below-set_of : (n : ℕ) (xs : List ℕ) → ((a : ℕ) → Memᴰ a xs → a < n) → T (all_below n (set_of xs))
all_below-set_of n xs h = all_below-of n (set_of xs) (λ a m. h a (among_at xs a (subst T (member-set_of a xs) m)))

-- a set of atoms below n is a number below 2^n
pub all_below_less : (n s : ℕ) → T (all_below n s) → s < 2 ^ n
unfolding all_below
all_below_less n s h = ltb→lt s (2 ^ n) h

-- ---- the order of sets

-- a subset is no greater
pub subset-le : (s t : ℕ) → T (subset s t) → s ≤ t
unfolding union
subset-le s t h =
    let e : bit_or s t ≡ t = union-subset s t h in
    let f : bit_or s t + bit_and s t ≡ s + t = or_add_and s t in
    let l : bit_and s t ≤ t = and_le_r s t in
    omega arith

-- a set less a member, as numbers
pub without-member : (a s : ℕ) → T (member a s) → without a s ≡ s - 2 ^ a
unfolding without
without-member a s h = rw (true_of_T (member a s) h)

-- a set less a member is less
pub without_less : (a s : ℕ) → T (member a s) → without a s < s
without_less a s h = rw (without-member a s h) (omega (arith, member_power a s h, pow_pos a))

-- a set falls when its highest atom is replaced by lower ones
pub replaced_less : (a s t : ℕ) → T (member a s) → ((b : ℕ) → T (member b s) → b ≤ a) → T (all_below a t) → union (without a s) t < s
replaced_less a s t h most k =
    lt_of_lt_of_le (all_below_less a (union (without a s) t) (all_below-union a (without a s) t (all_below-of a (without a s) lower) k)) (member_power a s h)
  where
    lower : (b : ℕ) → T (member b (without a s)) → b < a
    lower b m =
        let l : b ≤ a = most b (without-left b a s m) in
        let f : b ≡ a → ⊥ = λ e. subst T (ap (λ (x : ℕ). member x (without a s)) e ∙ without-same a s) m in
        omega arith
