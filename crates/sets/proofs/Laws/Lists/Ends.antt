-- Laws of lists that are put together: what `all`, `any`, `keep`, `sum`, `product` and `below` make of two lists in a row, or of one element more
-- at the end; and of lists the other way round. Assumes nothing.
use mathlib.Core.Path.{◌≡◌, refl, sym, ap, ◌∙◌, subst}
use Prim.Native.Nat.{ℕ, zero, suc, ◌+◌, ◌*◌}
use native.Mathlib.Nat.{mul_assoc, one-mul, mul-one, zero-add, add-zero, suc-add}
use native.Mathlib.Numerals.{add-one}
use native.Mathlib.Omega.{arith}
use mathlib.Core.Bool.{Bool, true, false, ◌&&◌, ◌||◌, cond, and_assoc, or_assoc, or-false}
use mathlib.Core.List.Memᴰ
use mathlib.Core.List.{List, [], ◌∷◌, ◌++◌, map, map-append, append-nil, reverse, reverse_aux, reverse-append, Memᴰ}
use mathlib.Core.Logic.{⊎_elim}
use Rattle.sets.specs.Lists.{any, all, keep, sum, product, numbers_from, below, below_down}

module _ {ℓ} {A : Type ℓ} where
  -- all of two lists in a row pass exactly if all of each do
  pub all_append : (p : A → Bool) (xs ys : List A) → all p (xs ++ ys) ≡ (all p xs && all p ys)
  unfolding all
  all_append p [] ys = refl
  all_append p (x ∷ xs) ys = rw (all_append p xs ys) (sym (and_assoc (p x) (all p xs) (all p ys)))

  -- some of two lists in a row pass exactly if some of one do
  pub any_append : (p : A → Bool) (xs ys : List A) → any p (xs ++ ys) ≡ (any p xs || any p ys)
  unfolding any
  any_append p [] ys = refl
  any_append p (x ∷ xs) ys = rw (any_append p xs ys) (sym (or_assoc (p x) (any p xs) (any p ys)))

  -- one element more: some pass, or it does
  pub any_snoc : (p : A → Bool) (xs : List A) (x : A) → any p (xs ++ (x ∷ [])) ≡ (any p xs || p x)
  unfolding any
  any_snoc p xs x = any_append p xs (x ∷ []) ∙ ap (◌||◌ (any p xs)) (or-false (p x))

  -- what is kept of two lists in a row
  pub keep_append : (p : A → Bool) (xs ys : List A) → keep p (xs ++ ys) ≡ keep p xs ++ keep p ys
  unfolding keep
  keep_append p [] ys = refl
  keep_append p (x ∷ xs) ys = step (p x) (keep_append p xs ys)
    where
      step : (b : Bool) → keep p (xs ++ ys) ≡ keep p xs ++ keep p ys
          → cond b (x ∷ keep p (xs ++ ys)) (keep p (xs ++ ys)) ≡ cond b (x ∷ keep p xs) (keep p xs) ++ keep p ys
      step true e = ap (◌∷◌ x) e
      step false e = e

  -- an element that passes is kept at the end
  pub keep_snoc_true : (p : A → Bool) (xs : List A) (x : A) → p x ≡ true → keep p (xs ++ (x ∷ [])) ≡ keep p xs ++ (x ∷ [])
  unfolding keep
  keep_snoc_true p xs x e = keep_append p xs (x ∷ []) ∙ rw e

  -- an element that does not pass is left out at the end
  pub keep_snoc_false : (p : A → Bool) (xs : List A) (x : A) → p x ≡ false → keep p (xs ++ (x ∷ [])) ≡ keep p xs
  unfolding keep
  keep_snoc_false p xs x e = keep_append p xs (x ∷ []) ∙ rw e (append-nil (keep p xs))

-- what holds of one element holds of each of the list of it alone
pub each-one {ℓ ℓ'} : {A : Type ℓ} (P : A → Type ℓ') {x : A} → P x → (y : A) → Memᴰ y (x ∷ []) → P y
each-one P p y m = subst P (sym (Memᴰ.eq_of_singleton m)) p

-- what holds of each and of one more holds of each with that one at the end
pub each_snoc {ℓ ℓ'} : {A : Type ℓ} (P : A → Type ℓ') (xs : List A) {x : A} → ((y : A) → Memᴰ y xs → P y) → P x
    → (y : A) → Memᴰ y (xs ++ (x ∷ [])) → P y
each_snoc P xs all p y m = ⊎_elim (all y) (each-one P p y) (Memᴰ.append_cases xs m)

-- the sum of two lists in a row
pub sum-append : (xs ys : List ℕ) → sum (xs ++ ys) ≡ sum xs + sum ys
unfolding sum
sum-append [] ys = omega arith
sum-append (x ∷ xs) ys = omega (arith, sum-append xs ys)

-- the sum with one number more
pub sum_snoc : (xs : List ℕ) (x : ℕ) → sum (xs ++ (x ∷ [])) ≡ sum xs + x
unfolding sum
sum_snoc xs x = omega (arith, sum-append xs (x ∷ []))

-- the product of two lists in a row
pub product-append : (xs ys : List ℕ) → product (xs ++ ys) ≡ product xs * product ys
unfolding product
product-append [] ys = sym (one-mul (product ys))
product-append (x ∷ xs) ys = ap (◌*◌ x) (product-append xs ys) ∙ sym (mul_assoc x (product xs) (product ys))

-- the product with one factor more
pub product_snoc : (xs : List ℕ) (x : ℕ) → product (xs ++ (x ∷ [])) ≡ product xs * x
unfolding product
product_snoc xs x = product-append xs (x ∷ []) ∙ ap (◌*◌ (product xs)) (mul-one x)

-- numbers from a on, and those after them
pub numbers_from-append : (a m n : ℕ) → numbers_from a (m + n) ≡ numbers_from a m ++ numbers_from (a + m) n
unfolding numbers_from
numbers_from-append a zero n = rw (zero-add, add-zero)
numbers_from-append a (suc m) n = let e : suc a + m ≡ a + suc m = omega arith in rw suc-add (ap (◌∷◌ a) (numbers_from-append (suc a) m n ∙ rw e))

-- the numbers below one more
pub below_snoc : (n : ℕ) → below (suc n) ≡ below n ++ (n ∷ [])
unfolding below numbers_from
below_snoc n = ap (numbers_from 0) (sym (add-one n)) ∙ numbers_from-append 0 n 1 ∙ rw (zero-add n)

-- what a list made of the numbers below one more ends in
pub map-below_snoc {ℓ} : {A : Type ℓ} (f : ℕ → A) (n : ℕ) → map f (below (suc n)) ≡ map f (below n) ++ (f n ∷ [])
map-below_snoc f n = ap (map f) (below_snoc n) ∙ map-append f (below n) (n ∷ [])

-- ---- lists the other way round

-- a map goes through what is put in front, the last first
map_reverse_aux {ℓ} : {A B : Type ℓ} (f : A → B) (xs ys : List A) → map f (reverse_aux xs ys) ≡ reverse_aux (map f xs) (map f ys)
map_reverse_aux f [] ys = refl
map_reverse_aux f (x ∷ xs) ys = map_reverse_aux f xs (x ∷ ys)

-- a map goes through the list the other way round
pub map-reverse {ℓ} : {A B : Type ℓ} (f : A → B) (xs : List A) → map f (reverse xs) ≡ reverse (map f xs)
map-reverse f xs = map_reverse_aux f xs []

-- the numbers below n, descending, are those ascending the other way round
pub below_down-reverse : (n : ℕ) → below_down n ≡ reverse (below n)
unfolding below_down below numbers_from
below_down-reverse zero = refl
below_down-reverse (suc n) = ap {B = List ℕ} (λ ns. n ∷ ns) (below_down-reverse n) ∙ sym (ap reverse (below_snoc n) ∙ reverse-append (below n) (n ∷ []))
