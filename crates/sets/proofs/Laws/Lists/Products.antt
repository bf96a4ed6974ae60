-- Laws of sums and products over a list: of a sum with a common factor, of its terms, of positive factors, and of factors that differ at one index. Assumes
-- nothing.
use Prim.Native.Nat.{ℕ, suc, ◌+◌, ◌-◌, ◌*◌, ◌≤◌, ◌<◌}
use native.Mathlib.Omega.{arith}
use native.Mathlib.Nat.{zero-add, zero-mul, add-mul, mul-pos}
use mathlib.Core.Path.{◌≡◌, refl, sym, ap, ◌∙◌}
use mathlib.Core.List.{List, [], ◌∷◌, map, map-append, Memᴰ}
use lib.ListN.{length, get_or, take}
use lib.Seq.{take-suc, get_or-take, length-take-le}
use Rattle.sets.specs.Lists.{sum, product, numbers_from, below}
use Rattle.sets.proofs.Laws.Lists.{map_cong}
use Rattle.sets.proofs.Laws.Lists.Ends.{sum_snoc, product-append, numbers_from-append}
use Rattle.sets.proofs.Laws.Lists.Indices.{at_index, below_at, numbers_from-least}

-- a factor common to all comes out of a sum
pub sum_times {ℓ} : {A : Type ℓ} (f : A → ℕ) (k : ℕ) (xs : List A) → sum (map (λ (x : A). f x * k) xs) ≡ sum (map f xs) * k
unfolding sum
sum_times f k [] = sym (zero-mul k)
sum_times f k (x ∷ xs) = ap (◌+◌ (f x * k)) (sum_times f k xs) ∙ sym (add-mul (f x) (sum (map f xs)) k)

-- a term is no more than the sum
pub sum_at : {x : ℕ} {xs : List ℕ} → Memᴰ x xs → x ≤ sum xs
unfolding sum
sum_at (Memᴰ.head e) = omega arith
sum_at (Memᴰ.tail m) = omega (arith, sum_at m)

-- one term more, by its index
pub sum-take-suc : (xs : List ℕ) (i : ℕ) → i < length xs → sum (take (suc i) xs) ≡ sum (take i xs) + get_or xs i 0
sum-take-suc xs i l = rw (take-suc xs i 0) (sum_snoc (take i xs) (get_or xs i 0))

-- one of the first n terms, by its index, is no more than their sum
pub sum-take_at : (xs : List ℕ) (n i : ℕ) → i < n → n ≤ length xs → get_or xs i 0 ≤ sum (take n xs)
sum-take_at xs n i l m = rw (← get_or-take n xs i 0 l) (sum_at (at_index (take n xs) i 0 (omega (arith, length-take-le n xs m))))

-- a product of numbers that are at least 1
pub product_positive {ℓ} : {A : Type ℓ} (f : A → ℕ) (xs : List A) → ((x : A) → Memᴰ x xs → 1 ≤ f x) → 1 ≤ product (map f xs)
unfolding product
product_positive f [] h = omega arith
product_positive f (x ∷ xs) h = mul-pos (h x (Memᴰ.head refl)) (product_positive f xs (λ y m. h y (Memᴰ.tail m)))

-- products that differ at index j alone
pub product_change : (f g : ℕ → ℕ) (j u v : ℕ) → f j * u ≡ g j * v → ((i : ℕ) → (i ≡ j → ⊥) → f i ≡ g i)
    → (n : ℕ) → j < n → product (map f (below n)) * u ≡ product (map g (below n)) * v
unfolding product numbers_from below
product_change f g j u v here other n l =
    let rest : List ℕ = numbers_from (suc j) (n - suc j) in
    let all : n ≡ j + suc (n - suc j) = omega arith in
    let before : map f (below j) ≡ map g (below j) = map_cong (below j) (λ i m. other i (λ e. omega (arith, below_at {n = j} m))) in
    let after : map f rest ≡ map g rest = map_cong rest (λ i m. other i (λ e. omega (arith, numbers_from-least (suc j) (n - suc j) m))) in
    rw (all, numbers_from-append 0 j (suc (n - suc j)), zero-add j)
    (simp (map-append, product-append, before, after) (omega (arith, ap (◌*◌ (product (map g (below j)) * product (map g rest))) here)))
