-- The ascending list of a set's members, and the set's size: the list has exactly the members and determines the set; the size of the empty set,
-- of a set with an atom more or less, and of a subset. Assumes nothing.
use Prim.Native.Nat.{ℕ, zero, suc, ◌+◌, ◌-◌, ◌≤◌, ◌<◌}
use native.Mathlib.Nat.{zero-add}
use native.Mathlib.Omega.{arith}
use mathlib.Core.Path.{◌≡◌, refl, sym, ap, ap₂, ◌∙◌, subst}
use mathlib.Core.Bool.{Bool, true, false, ◌&&◌, not, cond, false≢true}
use mathlib.Core.List.{List, [], ◌∷◌, Memᴰ}
use mathlib.Core.Logic.{⊎_elim}
use lib.Dec.{T, eqb, eqb→eq}
use lib.ListN.{length, length-append}
use borrow.Author.Tests.{not-true, eqb-true, eqb-false}
use Rattle.sets.specs.Lists.{any, keep, numbers_from, below, among}
use Rattle.sets.proofs.Laws.Tests.{T_of_true, true_of_T, T_ext, and_both, and_left, and_right}
use Rattle.sets.proofs.Laws.Lists.{any_find, keep-of, keep_at, keep_cong, among_of, among_at, keep_fewer, keep-none, any_none}
use Rattle.sets.proofs.Laws.Lists.Indices.{below_of, below_at, any_below, numbers_from-least}
use Rattle.sets.proofs.Laws.Lists.Ends.{keep_append, numbers_from-append}
use Rattle.sets.specs.Sets.{most_atoms}
use Rattle.sets.specs.Sets.{member, with, without, set_of, subset, all_below, members, size}
use Rattle.sets.proofs.Laws.Sets.Counts.{IsLowest}
use Rattle.sets.proofs.Laws.Sets.Digits.{member_empty, set_ext, all_below_at}
use Rattle.sets.proofs.Laws.Sets.{member-set_of, with-other, with-same, with_cases, without-same, without_other, with-without, subset-of, subset_at, subset_antisym}

-- ---- lists of numbers

module _ (p q : ℕ → Bool) (a : ℕ) (pa : p a ≡ false) (qa : q a ≡ true) (other : (x : ℕ) → (x ≡ a → ⊥) → q x ≡ p x) where
  -- a test that one number more passes keeps one more
  keep-one-more : (n : ℕ) → a < n → length (keep q (below n)) ≡ suc (length (keep p (below n)))
  unfolding keep numbers_from below
  keep-one-more n l =
      let rest : List ℕ = numbers_from (suc a) (n - suc a) in
      let all : n ≡ a + suc (n - suc a) = omega arith in
      let before : keep q (below a) ≡ keep p (below a) = keep_cong (below a) (λ x i. other x (λ e. omega (arith, below_at {n = a} i))) in
      let after : keep q rest ≡ keep p rest = keep_cong rest (λ x i. other x (λ e. omega (arith, numbers_from-least (suc a) (n - suc a) i))) in
      rw (all, numbers_from-append 0 a (suc (n - suc a)), zero-add a) (simp (keep_append, pa, qa, before, after, length-append) (omega arith))

-- ---- the list of the members

-- what is listed is a member
pub members_at : (s : ℕ) {a : ℕ} → Memᴰ a (members s) → T (member a s)
unfolding members
members_at s m = (keep_at (λ x. member x s) (below most_atoms) m).1

-- what is listed is an atom
pub members-below : (s : ℕ) {a : ℕ} → Memᴰ a (members s) → a < most_atoms
unfolding members
members-below s {a} m = below_at (keep_at (λ x. member x s) (below most_atoms) m).0

-- a member is listed
pub members-of : (s : ℕ) {a : ℕ} → T (all_below most_atoms s) → T (member a s) → Memᴰ a (members s)
unfolding members
members-of s {a} b h = keep-of (λ x. member x s) (below_of (all_below_at most_atoms s a b h)) h

-- the set of the members listed is the set
pub set_of-members : (s : ℕ) → T (all_below most_atoms s) → set_of (members s) ≡ s
set_of-members s b =
    set_ext (λ a. member-set_of a (members s)
    ∙ T_ext (among (members s) a) (member a s) (λ h. members_at s (among_at (members s) a h)) (λ h. among_of (members-of s b h)))

-- sets with the same list are equal
pub members_ext : {s t : ℕ} → T (all_below most_atoms s) → T (all_below most_atoms t) → members s ≡ members t → s ≡ t
members_ext {s} {t} b c e = sym (set_of-members s b) ∙ ap set_of e ∙ set_of-members t c

-- the empty set has an empty list
pub members_empty : members 0 ≡ []
unfolding members
members_empty = keep-none (λ x. member x 0) (below most_atoms) (any_none (λ x. member x 0) (below most_atoms) (λ x m t. false≢true (sym (member_empty x) ∙ true_of_T (member x 0) t)))

module _ (s a : ℕ) (lowest : IsLowest a s) where
  lowest_from : (k n : ℕ) → k ≤ a → a < k + n → keep (λ x. member x s) (numbers_from k n) ≡ a ∷ keep (λ x. member x (without a s)) (numbers_from k n)
  unfolding keep numbers_from
  lowest_from k zero l m = absurd (omega arith)
  lowest_from k (suc n) l m = go (eqb k a) refl (lowest_from (suc k) n)
    where
      later : List ℕ
      later = keep (λ x. member x s) (numbers_from (suc k) n)

      others : List ℕ
      others = keep (λ x. member x (without a s)) (numbers_from (suc k) n)

      go : (t : Bool) → eqb k a ≡ t → (suc k ≤ a → a < suc k + n → later ≡ a ∷ others)
          → cond (member k s) (k ∷ later) later ≡ a ∷ cond (member k (without a s)) (k ∷ others) others
      go true e rest =
          let here : k ≡ a = eqb-true k a e in
          let same : later ≡ others =
          keep_cong (numbers_from (suc k) n) (λ x i. sym (without_other x a s (λ q. omega (arith, numbers_from-least (suc k) n i)))) in
          rw (ap (λ (x : ℕ). member x s) here ∙ true_of_T (member a s) lowest.has, ap (λ (x : ℕ). member x (without a s)) here ∙ without-same a s)
          (ap₂ {C = List ℕ} (λ x xs. x ∷ xs) here same)
      go false e rest =
          let other : k ≡ a → ⊥ = eqb-false k a e in
          rw (without_other k a s (λ q. other (sym q)), lowest.none_below k (omega arith)) (rest (omega arith) (omega arith))

  -- the lowest atom is listed first, and after it the others
  pub members-lowest : a < most_atoms → members s ≡ a ∷ members (without a s)
  unfolding members below
  members-lowest l = lowest_from 0 most_atoms (omega arith) (omega arith)

-- a set that is no subset has an atom that the other has not
pub not-subset-member : (n s t : ℕ) → T (all_below n s) → (T (subset s t) → ⊥) → (a : ℕ) × T (member a s) × (member a t ≡ false)
not-subset-member n s t b f = go (any only (below n)) refl
  where
    only : ℕ → Bool
    only a = member a s && not (member a t)

    both : any only (below n) ≡ false → (a : ℕ) → T (member a s) → (u : Bool) → member a t ≡ u → T (member a t)
    both e a h true d = T_of_true d
    both e a h false d =
        absurd (subst T (sym (any_below only n a (all_below_at n s a b h) (and_both (member a s) (not (member a t)) h (rw d tt))) ∙ e) tt)

    go : (u : Bool) → any only (below n) ≡ u → (a : ℕ) × T (member a s) × (member a t ≡ false)
    go true e =
        let (a, i, h) = any_find only (below n) (T_of_true e) in
        (a, and_left (member a s) (not (member a t)) h, not-true (member a t) (true_of_T (not (member a t)) (and_right (member a s) (not (member a t)) h)))
    go false e = absurd (f (subset-of s t (λ a h. both e a h (member a t) refl)))

-- ---- the size

-- the empty set has no atoms
pub size_empty : size 0 ≡ 0
unfolding size
size_empty = ap length members_empty

-- an atom more that was no member
pub size-with : (a s : ℕ) → member a s ≡ false → a < most_atoms → size (with a s) ≡ suc (size s)
unfolding size members below
size-with a s h l =
    keep-one-more (λ x. member x s) (λ x. member x (with a s)) a h (true_of_T (member a (with a s)) (with-same a s))
    (λ x f. with-other x a s (λ e. f (sym e))) most_atoms l

-- a member less
pub size-without : (a s : ℕ) → T (member a s) → a < most_atoms → suc (size (without a s)) ≡ size s
size-without a s h l = sym (size-with a (without a s) (without-same a s) l) ∙ ap size (with-without a s h)

-- a subset has no more atoms
pub size-subset : (s t : ℕ) → T (subset s t) → size s ≤ size t
unfolding size members
size-subset s t h = keep_fewer (λ x. member x s) (λ x. member x t) (below most_atoms) (λ x m. subset_at s t x h)

-- a subset that is not the whole set has fewer atoms
pub size-subset_less : (s t : ℕ) → T (all_below most_atoms t) → T (subset s t) → (s ≡ t → ⊥) → size s < size t
size-subset_less s t b h f =
    let (a, m, e) = not-subset-member most_atoms t s b (λ k. f (subset_antisym h k)) in
    let i : T (subset (with a s) t) =
    subset-of (with a s) t (λ x k. ⊎_elim (subset_at s t x h) (λ d. subst (λ (y : ℕ). T (member y t)) (eqb→eq a x d) m) (with_cases x a s k)) in
    subst (λ (n : ℕ). n ≤ size t) (size-with a s e (all_below_at most_atoms t a b m)) (size-subset (with a s) t i)
