-- Laws of the functions on lists that go by a test: `any`, `all`, `keep`, `is_empty`, `among` and `same_numbers`, in terms of the elements of the
-- list. `Memᴰ x xs` says that x is an element of xs. Assumes nothing.
pub mod Ascending
pub mod Distinct
pub mod Ends
pub mod Flatten
pub mod Indices
pub mod Padding
pub mod Products
use mathlib.Core.Path.{◌≡◌, refl, sym, ap, ap₂, ◌∙◌}
use mathlib.Core.Bool.{Bool, true, false, not, ◌&&◌, ◌||◌, cond, true≢false, false≢true}
use mathlib.Core.List.Memᴰ
use mathlib.Core.List.{List, [], ◌∷◌, map, Memᴰ}
use mathlib.Core.Logic.{◌⊎◌, inl, inr}
use Prim.Native.Nat.{ℕ, ◌≤◌}
use native.Mathlib.Omega.{arith}
use lib.Dec.{T, eqb, eqb→eq, eqb_refl}
use lib.ListN.{length}
use Rattle.std.specs.List.{list_any, list_all}
use Rattle.sets.specs.Lists.{any, all, keep, is_empty, among, same_numbers}
use Rattle.sets.proofs.Laws.Tests.{T_of_true, true_of_T, false_of_T, and_both, and_left, and_right, or_left, or_right, or_cases, or_false_left, or_false_right}

module _ {ℓ} {A : Type ℓ} where
  -- ---- every element passes

  -- if all pass, each element does
  pub all_at : (p : A → Bool) {x : A} {xs : List A} → T (all p xs) → Memᴰ x xs → T (p x)
  unfolding all
  all_at p h (Memᴰ.head {x = y} {xs = ys} e) = rw e (and_left (p y) (all p ys) h)
  all_at p h (Memᴰ.tail {x = y} {xs = ys} m) = all_at p (and_right (p y) (all p ys) h) m

  -- if each element passes, all do
  pub all_of : (p : A → Bool) (xs : List A) → ((x : A) → Memᴰ x xs → T (p x)) → T (all p xs)
  unfolding all
  all_of p [] h = tt
  all_of p (x ∷ xs) h = and_both (p x) (all p xs) (h x (Memᴰ.head refl)) (all_of p xs (λ y m. h y (Memᴰ.tail m)))

  -- tests that agree on the elements agree on all
  pub all_cong : {p q : A → Bool} (xs : List A) → ((x : A) → Memᴰ x xs → p x ≡ q x) → all p xs ≡ all q xs
  unfolding all
  all_cong [] h = refl
  all_cong (x ∷ xs) h = ap₂ ◌&&◌ (h x (Memᴰ.head refl)) (all_cong xs (λ y m. h y (Memᴰ.tail m)))

  -- a weaker test passes on all where the stronger does
  pub all_mono : (p q : A → Bool) (xs : List A) → ((x : A) → Memᴰ x xs → T (p x) → T (q x)) → T (all p xs) → T (all q xs)
  all_mono p q xs h k = all_of q xs (λ x m. h x m (all_at p k m))

  -- ---- some element passes

  -- an element that passes makes some pass
  pub any_of : (p : A → Bool) {x : A} {xs : List A} → Memᴰ x xs → T (p x) → T (any p xs)
  unfolding any
  any_of p (Memᴰ.head {x = y} {xs = ys} e) h = or_left (p y) (any p ys) (rw e at h)
  any_of p (Memᴰ.tail {x = y} {xs = ys} m) h = or_right (p y) (any p ys) (any_of p m h)

  -- if some pass, there is an element that does
  pub any_find : (p : A → Bool) (xs : List A) → T (any p xs) → (x : A) × Memᴰ x xs × T (p x)
  unfolding any
  any_find p [] h = absurd h
  any_find p (x ∷ xs) h = step (any_find p xs) (or_cases (p x) (any p xs) h)
    where
      step : (T (any p xs) → (y : A) × Memᴰ y xs × T (p y)) → T (p x) ⊎ T (any p xs) → (y : A) × Memᴰ y (x ∷ xs) × T (p y)
      step rest (inl k) = (x, Memᴰ.head refl, k)
      step rest (inr k) = let t = rest k in (t.0, Memᴰ.tail t.1, t.2)

  -- if no element passes, none does
  pub any_none : (p : A → Bool) (xs : List A) → ((x : A) → Memᴰ x xs → T (p x) → ⊥) → any p xs ≡ false
  any_none p xs h = false_of_T (any p xs) (λ k. let t = any_find p xs k in h t.0 t.1 t.2)

  -- if none passes, no element does
  pub none_at : (p : A → Bool) {x : A} {xs : List A} → any p xs ≡ false → Memᴰ x xs → p x ≡ false
  unfolding any
  none_at p h (Memᴰ.head {x = y} {xs = ys} e) = rw e (or_false_left (p y) (any p ys) h)
  none_at p h (Memᴰ.tail {x = y} {xs = ys} m) = none_at p (or_false_right (p y) (any p ys) h) m

  -- tests that agree on the elements agree on some
  pub any_cong : {p q : A → Bool} (xs : List A) → ((x : A) → Memᴰ x xs → p x ≡ q x) → any p xs ≡ any q xs
  unfolding any
  any_cong [] h = refl
  any_cong (x ∷ xs) h = ap₂ ◌||◌ (h x (Memᴰ.head refl)) (any_cong xs (λ y m. h y (Memᴰ.tail m)))

  -- some fail exactly if not all pass
  pub any-not : (p : A → Bool) (xs : List A) → any (λ x. not (p x)) xs ≡ not (all p xs)
  unfolding any all
  any-not p [] = refl
  any-not p (x ∷ xs) = go (p x) (any-not p xs)
    where
      go : (b : Bool) → any (λ x. not (p x)) xs ≡ not (all p xs) → (not b || any (λ x. not (p x)) xs) ≡ not (b && all p xs)
      go true e = e
      go false e = refl

  -- a weaker test passes on some where the stronger does
  pub any_mono : (p q : A → Bool) (xs : List A) → ((x : A) → Memᴰ x xs → T (p x) → T (q x)) → T (any p xs) → T (any q xs)
  any_mono p q xs h k = let t = any_find p xs k in any_of q t.1 (h t.0 t.1 t.2)

  -- ---- the elements that pass

  -- an element that passes is kept
  pub keep-of : (p : A → Bool) {x : A} {xs : List A} → Memᴰ x xs → T (p x) → Memᴰ x (keep p xs)
  unfolding keep
  keep-of p (Memᴰ.head {x = y} {xs = ys} e) h = rw (true_of_T (p y) (rw e at h)) (Memᴰ.head e)
  keep-of p {x} (Memᴰ.tail {x = y} {xs = ys} m) h = step (p y) (keep-of p m h)
    where
      step : (b : Bool) → Memᴰ x (keep p ys) → Memᴰ x (cond b (y ∷ keep p ys) (keep p ys))
      step true k = Memᴰ.tail k
      step false k = k

  -- what is kept is an element and passes
  pub keep_at : (p : A → Bool) {x : A} (xs : List A) → Memᴰ x (keep p xs) → Memᴰ x xs × T (p x)
  unfolding keep
  keep_at p [] m = absurd (Memᴰ.not-nil m)
  keep_at p {x} (y ∷ ys) m = step (p y) refl (keep_at p ys) m
    where
      step : (b : Bool) → p y ≡ b → (Memᴰ x (keep p ys) → Memᴰ x ys × T (p x)) → Memᴰ x (cond b (y ∷ keep p ys) (keep p ys)) → Memᴰ x (y ∷ ys) × T (p x)
      step true e rest (Memᴰ.head q) = (Memᴰ.head q, rw q (T_of_true e))
      step true e rest (Memᴰ.tail k) = let t = rest k in (Memᴰ.tail t.0, t.1)
      step false e rest k = let t = rest k in (Memᴰ.tail t.0, t.1)

  -- some of those kept pass exactly if some pass both tests
  pub any-keep : (p q : A → Bool) (xs : List A) → any p (keep q xs) ≡ any (λ x. q x && p x) xs
  unfolding any keep
  any-keep p q [] = refl
  any-keep p q (x ∷ xs) = step (q x) (any-keep p q xs)
    where
      step : (b : Bool) → any p (keep q xs) ≡ any (λ y. q y && p y) xs
          → any p (cond b (x ∷ keep q xs) (keep q xs)) ≡ ((b && p x) || any (λ y. q y && p y) xs)
      step true e = ap (◌||◌ (p x)) e
      step false e = e

  -- tests that agree on the elements keep the same
  pub keep_cong : {p q : A → Bool} (xs : List A) → ((x : A) → Memᴰ x xs → p x ≡ q x) → keep p xs ≡ keep q xs
  unfolding keep
  keep_cong [] h = refl
  keep_cong (x ∷ xs) h = ap₂ (λ (b : Bool) (ks : List A). cond b (x ∷ ks) ks) (h x (Memᴰ.head refl)) (keep_cong xs (λ y m. h y (Memᴰ.tail m)))

  -- if all pass, all are kept
  pub keep_all : (p : A → Bool) (xs : List A) → T (all p xs) → keep p xs ≡ xs
  unfolding all keep
  keep_all p [] h = refl
  keep_all p (x ∷ xs) h = simp (true_of_T (p x) (and_left (p x) _ h), keep_all p xs (and_right (p x) _ h))

  -- if none passes, none is kept
  pub keep-none : (p : A → Bool) (xs : List A) → any p xs ≡ false → keep p xs ≡ []
  unfolding any keep
  keep-none p [] h = refl
  keep-none p (x ∷ xs) h = simp (or_false_left (p x) _ h, keep-none p xs (or_false_right (p x) _ h))

  -- the elements that pass two tests
  pub keep-keep : (p q : A → Bool) (xs : List A) → keep p (keep q xs) ≡ keep (λ x. q x && p x) xs
  unfolding keep
  keep-keep p q [] = refl
  keep-keep p q (x ∷ xs) = go (q x) (keep-keep p q xs)
    where
      go : (t : Bool) → keep p (keep q xs) ≡ keep (λ x. q x && p x) xs
          → keep p (cond t (x ∷ keep q xs) (keep q xs)) ≡ cond (t && p x) (x ∷ keep (λ x. q x && p x) xs) (keep (λ x. q x && p x) xs)
      go true e = ap (λ ks. cond (p x) (x ∷ ks) ks) e
      go false e = e

  -- where every element that passes p passes q, no more are kept by p
  pub keep_fewer : (p q : A → Bool) (xs : List A) → ((x : A) → Memᴰ x xs → T (p x) → T (q x)) → length (keep p xs) ≤ length (keep q xs)
  unfolding keep
  keep_fewer p q [] f = omega arith
  keep_fewer p q (x ∷ xs) f = go (p x) (q x) (f x (Memᴰ.head refl)) (keep_fewer p q xs (λ y m. f y (Memᴰ.tail m)))
    where
      go : (s t : Bool) → (T s → T t) → length (keep p xs) ≤ length (keep q xs)
          → length (cond s (x ∷ keep p xs) (keep p xs)) ≤ length (cond t (x ∷ keep q xs) (keep q xs))
      go true true f l = omega arith
      go true false f l = absurd (f tt)
      go false true f l = omega arith
      go false false f l = l

  -- no more are kept than there are
  pub keep_shorter : (p : A → Bool) (xs : List A) → length (keep p xs) ≤ length xs
  keep_shorter p xs = rw (keep_all (λ (x : A). true) xs (all_of _ xs (λ x m. tt))) at (keep_fewer p (λ x. true) xs (λ x m t. tt))

  -- ---- short lists

  -- an empty list is the list of nothing
  pub empty_nil : (xs : List A) → is_empty xs ≡ true → xs ≡ []
  unfolding is_empty
  empty_nil [] h = refl
  empty_nil (x ∷ xs) h = absurd (false≢true h)

  -- a list that is not empty has an element
  pub empty_not : (xs : List A) → is_empty xs ≡ false → (x : A) × Memᴰ x xs
  unfolding is_empty
  empty_not [] h = absurd (true≢false h)
  empty_not (x ∷ xs) h = (x, Memᴰ.head refl)

  -- of a list of one at most, two elements are equal
  pub short_equal : (xs : List A) → length xs ≤ 1 → {x y : A} → Memᴰ x xs → Memᴰ y xs → x ≡ y
  short_equal [] l m n = absurd (Memᴰ.not-nil m)
  short_equal (z ∷ []) l (Memᴰ.head e) (Memᴰ.head f) = e ∙ sym f
  short_equal (z ∷ []) l (Memᴰ.head e) (Memᴰ.tail n) = absurd (Memᴰ.not-nil n)
  short_equal (z ∷ []) l (Memᴰ.tail m) n = absurd (Memᴰ.not-nil m)
  short_equal (z ∷ w ∷ xs) l m n = absurd (omega arith)

-- ---- the library's tests of a list

module _ {X : Type 0} (p : X → Bool) where
  -- some element passes the one exactly if some passes the other
  pub list_any-any : (xs : List X) → list_any p xs ≡ any p xs
  unfolding any
  list_any-any [] = refl
  list_any-any (x ∷ xs) = ap (◌||◌ (p x)) (list_any-any xs)

  -- .. and all
  pub list_all-all : (xs : List X) → list_all p xs ≡ all p xs
  unfolding all
  list_all-all [] = refl
  list_all-all (x ∷ xs) = ap (◌&&◌ (p x)) (list_all-all xs)

-- ---- mapped lists

module _ {ℓ κ} {A : Type ℓ} {B : Type κ} where
  -- functions that agree on the elements give the same list
  pub map_cong : {f g : A → B} (xs : List A) → ((x : A) → Memᴰ x xs → f x ≡ g x) → map f xs ≡ map g xs
  map_cong [] h = refl
  map_cong (x ∷ xs) h = ap₂ {C = List B} (λ y ys. y ∷ ys) (h x (Memᴰ.head refl)) (map_cong xs (λ y m. h y (Memᴰ.tail m)))

  -- all of a mapped list pass exactly if all pass after the map
  pub all_map : (p : B → Bool) (f : A → B) (xs : List A) → all p (map f xs) ≡ all (λ x. p (f x)) xs
  unfolding all
  all_map p f [] = refl
  all_map p f (x ∷ xs) = ap (◌&&◌ (p (f x))) (all_map p f xs)

  -- some of a mapped list pass exactly if some pass after the map
  pub any-map : (p : B → Bool) (f : A → B) (xs : List A) → any p (map f xs) ≡ any (λ x. p (f x)) xs
  unfolding any
  any-map p f [] = refl
  any-map p f (x ∷ xs) = ap (◌||◌ (p (f x))) (any-map p f xs)

-- ---- numbers among others

-- a number of the list is among them
pub among_of : {x : ℕ} {xs : List ℕ} → Memᴰ x xs → T (among xs x)
unfolding among
among_of {x} m = any_of (λ y. eqb y x) m (eqb_refl x)

-- a number among them is of the list
pub among_at : (xs : List ℕ) (x : ℕ) → T (among xs x) → Memᴰ x xs
unfolding among
among_at xs x h = let (y, m, e) = any_find (λ y. eqb y x) xs h in rw (eqb→eq y x e) at m

-- ---- the same numbers

-- a list has the same numbers as itself
pub same_numbers_refl : (xs : List ℕ) → T (same_numbers xs xs)
unfolding same_numbers
same_numbers_refl [] = tt
same_numbers_refl (x ∷ xs) = and_both (eqb x x) (same_numbers xs xs) (eqb_refl x) (same_numbers_refl xs)

-- lists of the same numbers are equal
pub same_numbers→eq : (xs ys : List ℕ) → T (same_numbers xs ys) → xs ≡ ys
unfolding same_numbers
same_numbers→eq [] [] t = refl
same_numbers→eq [] (y ∷ ys) t = absurd t
same_numbers→eq (x ∷ xs) [] t = absurd t
same_numbers→eq (x ∷ xs) (y ∷ ys) t =
    ap₂ {C = List ℕ} (λ z zs. z ∷ zs) (eqb→eq x y (and_left (eqb x y) (same_numbers xs ys) t)) (same_numbers→eq xs ys (and_right (eqb x y) (same_numbers xs ys) t))
