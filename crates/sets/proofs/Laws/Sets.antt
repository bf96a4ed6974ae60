-- Laws of sets of atoms, in terms of their members: who is a member of each set that can be formed, that sets with the same members are equal,
-- what `subset` says of the members, and the equations of `union`, `with` and `without`. Nothing here looks at a digit (`Digits` does).
-- Assumes nothing.
pub mod Bounds
pub mod Counts
pub mod Digits
pub mod Highest
pub mod Meets
pub mod Members
use Prim.Native.Nat.{ℕ, ◌^◌}
use mathlib.Core.Path.{◌≡◌, refl, sym, ap, ◌∙◌, subst}
use mathlib.Core.Bool.{Bool, true, false, ◌&&◌, ◌||◌, not, and-true, and-false, or_comm, or_assoc, or-false}
use mathlib.Core.List.{List, [], ◌∷◌, ◌++◌}
use mathlib.Core.Logic.{◌⊎◌}
use native.Mathlib.Decide.{ℕ_discrete}
use lib.Dec.{T, eqb, eqb→eq}
use borrow.Author.Tests.{eq-eqb, ne_eqb}
use Rattle.sets.specs.Lists.{any, among}
use Rattle.sets.proofs.Laws.Lists.Ends.{any_snoc}
use Rattle.sets.proofs.Laws.Tests.{T_of_true, true_of_T, T_ext, or_left, or_right, or_cases, and_left}
use Rattle.sets.specs.Sets.{member, union, with, without, set_of, subset}
pub use Rattle.sets.proofs.Laws.Sets.Digits.{member_empty, member_union, member_single, member-without, set_ext}

-- ---- members

-- an atom of s is in a union with s
pub union_left : (a s t : ℕ) → T (member a s) → T (member a (union s t))
union_left a s t h = subst T (sym (member_union a s t)) (or_left (member a s) (member a t) h)

-- an atom of t is in a union with t
pub union_right : (a s t : ℕ) → T (member a t) → T (member a (union s t))
union_right a s t h = subst T (sym (member_union a s t)) (or_right (member a s) (member a t) h)

-- an atom of a union is in one of the two
pub union-cases : (a s t : ℕ) → T (member a (union s t)) → T (member a s) ⊎ T (member a t)
union-cases a s t h = or_cases (member a s) (member a t) (subst T (member_union a s t) h)

-- an atom is in s and b exactly if it is in s or is b
pub member-with : (a b s : ℕ) → member a (with b s) ≡ (member a s || eqb b a)
unfolding with
member-with a b s = member_union a s (2 ^ b) ∙ ap (◌||◌ (member a s)) (member_single a b)

-- a is in s and a
pub with-same : (a s : ℕ) → T (member a (with a s))
with-same a s = subst T (sym (member-with a a s)) (or_right (member a s) (eqb a a) (T_of_true (eq-eqb a a refl)))

-- an atom of s is in s and b
pub with-left : (a b s : ℕ) → T (member a s) → T (member a (with b s))
with-left a b s h = subst T (sym (member-with a b s)) (or_left (member a s) (eqb b a) h)

-- another atom than b is in s and b exactly if it is in s
pub with-other : (a b s : ℕ) → (b ≡ a → ⊥) → member a (with b s) ≡ member a s
with-other a b s h = member-with a b s ∙ ap (◌||◌ (member a s)) (ne_eqb b a h) ∙ or-false (member a s)

-- an atom of s and b is in s or is b
pub with_cases : (a b s : ℕ) → T (member a (with b s)) → T (member a s) ⊎ T (eqb b a)
with_cases a b s h = or_cases (member a s) (eqb b a) (subst T (member-with a b s) h)

-- a is not in s less a
pub without-same : (a s : ℕ) → member a (without a s) ≡ false
without-same a s = member-without a a s ∙ ap (λ (t : Bool). member a s && not t) (eq-eqb a a refl) ∙ and-false (member a s)

-- an atom of s that is not b is in s less b
pub without_other : (a b s : ℕ) → (b ≡ a → ⊥) → member a (without b s) ≡ member a s
without_other a b s h = member-without a b s ∙ ap (λ (t : Bool). member a s && not t) (ne_eqb b a h) ∙ and-true (member a s)

-- an atom of s less b is in s
pub without-left : (a b s : ℕ) → T (member a (without b s)) → T (member a s)
without-left a b s h = and_left (member a s) (not (eqb b a)) (subst T (member-without a b s) h)

-- an atom is in the set of the atoms listed exactly if it is among them
pub member-set_of : (a : ℕ) (xs : List ℕ) → member a (set_of xs) ≡ among xs a
unfolding set_of among any
member-set_of a [] = member_empty a
member-set_of a (x ∷ xs) = member-with a x (set_of xs) ∙ or_comm (member a (set_of xs)) (eqb x a) ∙ ap (◌||◌ (eqb x a)) (member-set_of a xs)

-- the set of the atoms listed, with one more at the end
pub set_of_snoc : (a : ℕ) (xs : List ℕ) → set_of (xs ++ (a ∷ [])) ≡ with a (set_of xs)
unfolding among
set_of_snoc a xs =
    set_ext (λ b. member-set_of b (xs ++ (a ∷ [])) ∙ any_snoc (λ y. eqb y b) xs a ∙ ap (λ (t : Bool). t || eqb a b) (sym (member-set_of b xs)) ∙ sym (member-with b a (set_of xs)))

-- ---- subsets

stronger : (p q : Bool) → (T p → T q) → (p || q) ≡ q
stronger true q h = sym (true_of_T q (h tt))
stronger false q h = refl

-- if every atom of s is in t, s is a subset of t
pub subset-of : (s t : ℕ) → ((a : ℕ) → T (member a s) → T (member a t)) → T (subset s t)
unfolding subset
subset-of s t h = T_of_true (eq-eqb (union s t) t (set_ext (λ a. member_union a s t ∙ stronger (member a s) (member a t) (h a))))

-- a union with a set that holds it changes nothing
pub union-subset : (s t : ℕ) → T (subset s t) → union s t ≡ t
unfolding subset
union-subset s t h = eqb→eq (union s t) t h

-- every atom of a subset of t is in t
pub subset_at : (s t a : ℕ) → T (subset s t) → T (member a s) → T (member a t)
subset_at s t a h k = subst (λ (x : ℕ). T (member a x)) (union-subset s t h) (union_left a s t k)

-- a set is a subset of itself
pub subset_refl : (s : ℕ) → T (subset s s)
subset_refl s = subset-of s s (λ a h. h)

-- a subset of a subset is a subset
pub subset_trans : (s t u : ℕ) → T (subset s t) → T (subset t u) → T (subset s u)
subset_trans s t u h k = subset-of s u (λ a m. subset_at t u a k (subset_at s t a h m))

-- sets that are subsets of each other are equal
pub subset_antisym : {s t : ℕ} → T (subset s t) → T (subset t s) → s ≡ t
subset_antisym {s} {t} h k = set_ext (λ a. T_ext (member a s) (member a t) (subset_at s t a h) (subset_at t s a k))

-- the empty set is a subset of every set
pub subset_empty : (s : ℕ) → T (subset 0 s)
subset_empty s = subset-of 0 s (λ a h. absurd (subst T (member_empty a) h))

-- s is a subset of s and a
pub subset-with : (a s : ℕ) → T (subset s (with a s))
subset-with a s = subset-of s (with a s) (λ b. with-left b a s)

-- ---- equations

-- the order of a union does not matter
pub union_comm : (s t : ℕ) → union s t ≡ union t s
union_comm s t = set_ext (λ a. member_union a s t ∙ or_comm (member a s) (member a t) ∙ sym (member_union a t s))

-- the grouping of a union does not matter
pub union_assoc : (s t u : ℕ) → union (union s t) u ≡ union s (union t u)
union_assoc s t u = set_ext λ a. simp member_union (or_assoc (member a s) (member a t) (member a u))

-- a union with the empty set
pub union_empty : (s : ℕ) → union s 0 ≡ s
union_empty s = union_comm s 0 ∙ union-subset 0 s (subset_empty s)

-- sets that agree on one atom and on all others are equal
set_ext_at : (a s t : ℕ) → member a s ≡ member a t → ((b : ℕ) → (a ≡ b → ⊥) → member b s ≡ member b t) → s ≡ t
set_ext_at a s t here other = set_ext (λ b. go b (ℕ_discrete a b))
  where
    go : (b : ℕ) → Dec (a ≡ b) → member b s ≡ member b t
    go b (yes e) = rw e at here
    go b (no f) = other b f

-- an atom less that is no member changes nothing
pub without-not-member : (a s : ℕ) → member a s ≡ false → without a s ≡ s
without-not-member a s h = set_ext_at a _ _ (without-same a s ∙ sym h) (λ b. without_other b a s)

-- a member less, and the same atom more
pub with-without : (a s : ℕ) → T (member a s) → with a (without a s) ≡ s
with-without a s h =
    set_ext_at a _ _ (true_of_T _ (with-same a (without a s)) ∙ sym (true_of_T _ h)) (λ b f. with-other b a (without a s) f ∙ without_other b a s f)
