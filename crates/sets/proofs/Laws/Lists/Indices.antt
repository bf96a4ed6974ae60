-- Laws that go by indices: what stands at an index of a list, what some or all elements pass in terms of their indices, the numbers below a bound,
-- and a list as a function of its indices. `get_or xs i d` is what stands at index i of xs. Assumes nothing.
use Prim.Native.Nat.{ℕ, zero, suc, ◌+◌, ◌≤◌, ◌<◌}
use native.Mathlib.Omega.{arith}
use native.Mathlib.Numerals.{add-one}
use native.Mathlib.Nat.{not-suc-le-zero, add-zero, suc-add, add-suc}
use mathlib.Core.Path.{◌≡◌, refl, sym, ap, ap₂, ◌∙◌}
use mathlib.Core.Bool.{Bool, true, false}
use mathlib.Core.List.Memᴰ
use mathlib.Core.List.{List, [], ◌∷◌, map, Memᴰ}
use lib.Dec.{T}
use lib.ListN.{length, get_or, take}
use lib.Seq.{length-take-le, get_or-take}
use Rattle.std.specs.List.{range_with_len}
use Rattle.sets.specs.Lists.{any, all, numbers_from, below}
use Rattle.sets.proofs.Laws.Lists.{all_of, any_of, any_none}
use Rattle.sets.proofs.Laws.Tests.{T_of_true, true_of_T}

module _ {ℓ} {A : Type ℓ} where
  -- what stands at an index is an element
  pub at_index : (xs : List A) (i : ℕ) (d : A) → i < length xs → Memᴰ (get_or xs i d) xs
  at_index [] i d l = absurd (not-suc-le-zero l)
  at_index (x ∷ xs) zero d l = Memᴰ.head refl
  at_index (x ∷ xs) (suc i) d l = Memᴰ.tail (at_index xs i d (omega arith))

  -- an element stands at an index
  pub index_of : (d : A) {x : A} {xs : List A} → Memᴰ x xs → (i : ℕ) × (i < length xs) × (get_or xs i d ≡ x)
  index_of d (Memᴰ.head e) = (zero, omega arith, sym e)
  index_of d (Memᴰ.tail m) = let (i, l, e) = index_of d m in (suc i, omega arith, e)

  module _ (p : A → Bool) (xs : List A) (d : A) where
    -- one that passes, at an index
    pub any_here : (i : ℕ) → i < length xs → T (p (get_or xs i d)) → any p xs ≡ true
    any_here i l t = true_of_T (any p xs) (any_of p (at_index xs i d l) t)

    -- none passes, at any index
    pub any-nowhere : ((i : ℕ) → i < length xs → T (p (get_or xs i d)) → ⊥) → any p xs ≡ false
    any-nowhere h = any_none p xs (λ x m t. let (i, l, e) = index_of d m in h i l (rw e t))

    -- all pass, at every index
    pub all_everywhere : ((i : ℕ) → i < length xs → T (p (get_or xs i d))) → all p xs ≡ true
    all_everywhere h = true_of_T (all p xs) (all_of p xs (λ x m. let (i, l, e) = index_of d m in rw e at (h i l)))

-- ---- the numbers below a bound

-- a range has the numbers from its start on
pub range_with_len-numbers_from : (a n : ℕ) → range_with_len a n ≡ numbers_from a n
unfolding numbers_from
range_with_len-numbers_from a zero = refl
range_with_len-numbers_from a (suc n) = rw (range_with_len-numbers_from (a + 1) n, add-one)

-- there are n numbers from a on
numbers_length : (a n : ℕ) → length (numbers_from a n) ≡ n
unfolding numbers_from
numbers_length a zero = refl
numbers_length a (suc n) = ap suc (numbers_length (suc a) n)

-- at index i stands a + i
numbers_at : (a n i : ℕ) → i < n → get_or (numbers_from a n) i 0 ≡ a + i
unfolding numbers_from
numbers_at a zero i l = absurd (not-suc-le-zero l)
numbers_at a (suc n) zero l = omega arith
numbers_at a (suc n) (suc i) l = numbers_at (suc a) n i (omega arith) ∙ omega arith

-- the numbers from a on are at least a
pub numbers_from-least : (a n : ℕ) {i : ℕ} → Memᴰ i (numbers_from a n) → a ≤ i
unfolding numbers_from
numbers_from-least a zero m = absurd (Memᴰ.not-nil m)
numbers_from-least a (suc n) (Memᴰ.head e) = omega arith
numbers_from-least a (suc n) (Memᴰ.tail m) = omega (arith, numbers_from-least (suc a) n m)

-- there are n of them
pub length-below : (n : ℕ) → length (below n) ≡ n
unfolding below
length-below n = numbers_length 0 n

-- i stands at index i
pub get_d_below : (n i : ℕ) → i < n → get_or (below n) i 0 ≡ i
unfolding below
get_d_below n i l = numbers_at 0 n i l ∙ omega arith

-- each number below n is one of them
pub below_of : {n i : ℕ} → i < n → Memᴰ i (below n)
below_of {n} {i} l = rw (get_d_below n i l) at (at_index (below n) i 0 (rw length-below l))

-- and each of them is below n
pub below_at : {n i : ℕ} → Memᴰ i (below n) → i < n
below_at {n} {i} m =
    let (k, l, e) = index_of 0 m in
    let b : k < n = rw length-below at l in
    rw (sym e ∙ get_d_below n k b) b

module _ (p : ℕ → Bool) (n : ℕ) where
  -- a number below n passes
  pub any_below : (i : ℕ) → i < n → T (p i) → any p (below n) ≡ true
  any_below i l t = any_here p (below n) 0 i (rw length-below l) (rw (get_d_below n i l) t)

  -- no number below n passes
  pub none_below : ((i : ℕ) → i < n → T (p i) → ⊥) → any p (below n) ≡ false
  none_below h = any-nowhere p (below n) 0 (λ i l t. let k : i < n = rw length-below at l in h i k (rw (get_d_below n i k) at t))

  -- every number below n passes
  pub all-below : ((i : ℕ) → i < n → T (p i)) → T (all p (below n))
  all-below h = T_of_true (all_everywhere p (below n) 0 (λ i l. let k : i < n = rw length-below at l in rw (get_d_below n i k) (h i k)))

-- ---- a list as a function of its indices

module _ {ℓ} {A : Type ℓ} where
  -- a function that gives each index, counted from a on, its element gives the list
  from_by_index : (f : ℕ → A) (d : A) (a : ℕ) (xs : List A)
      → ((i : ℕ) → i < length xs → f (a + i) ≡ get_or xs i d) → map f (numbers_from a (length xs)) ≡ xs
  unfolding numbers_from
  from_by_index f d a [] h = refl
  from_by_index f d a (x ∷ xs) h =
      ap₂ {C = List A} (λ y ys. y ∷ ys) (ap f (sym (add-zero a)) ∙ h 0 (omega arith))
      (from_by_index f d (suc a) xs (λ i l. ap f (suc-add a i ∙ sym (add-suc a i)) ∙ h (suc i) (omega arith)))

  -- a function that gives each index its element gives the list
  pub map-below_by_index : (f : ℕ → A) (d : A) (xs : List A) → ((i : ℕ) → i < length xs → f i ≡ get_or xs i d) → map f (below (length xs)) ≡ xs
  unfolding below
  map-below_by_index f d xs h = from_by_index f d 0 xs (λ i l. ap f (omega arith) ∙ h i l)

  -- the first k elements by their indices are the list's first k
  pub map_get_d_take : (d : A) (xs : List A) (k : ℕ) → k ≤ length xs → map (λ i. get_or xs i d) (below k) ≡ take k xs
  map_get_d_take d xs k h =
      let e : length (take k xs) ≡ k = length-take-le k xs h in
      rw e at (map-below_by_index (λ i. get_or xs i d) d (take k xs) (λ i l. sym (get_or-take k xs i d (omega arith))))

  -- of the numbers from a on, what a function gives stands where they do
  from_at : (f : ℕ → A) (d : A) (a n i : ℕ) → i < n → get_or (map f (numbers_from a n)) i d ≡ f (a + i)
  unfolding numbers_from
  from_at f d a zero i l = absurd (not-suc-le-zero l)
  from_at f d a (suc n) zero l = ap f (sym (add-zero a))
  from_at f d a (suc n) (suc i) l = from_at f d (suc a) n i (omega arith) ∙ ap f (suc-add a i ∙ sym (add-suc a i))

  -- .. and of those below n
  pub get_d_map_below : (f : ℕ → A) (d : A) (n i : ℕ) → i < n → get_or (map f (below n)) i d ≡ f i
  unfolding below
  get_d_map_below f d n i l = from_at f d 0 n i l ∙ ap f (omega arith)
