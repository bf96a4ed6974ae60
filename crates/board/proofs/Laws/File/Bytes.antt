-- Laws of `are_bytes`, the test of a list's elements for being bytes, below 256: what it says of an element, and which lists pass. Assumes nothing.
use Prim.Native.Nat.{ℕ, zero, suc, ◌+◌, ◌^◌, ◌<◌}
use native.Mathlib.Omega.{arith}
use mathlib.Core.Path.{refl}
use mathlib.Core.List.{List, [], ◌∷◌, ◌++◌, map, flatten, Memᴰ}
use lib.Dec.{T, ltb, lt→ltb, ltb→lt}
use lib.ListN.{get_or}
use lib.Pow.{are_bytes}
use Rattle.sets.specs.Lists.{all}
use Rattle.sets.proofs.Laws.Tests.{and_both, and_left, and_right}
use Rattle.board.specs.File.{three_bytes}

-- every element of a list of bytes is below 256
pub are_bytes_at : (file : List ℕ) → T (are_bytes file) → (i : ℕ) → get_or file i 0 < 256
are_bytes_at [] h i = omega arith
are_bytes_at (x ∷ file) h zero = ltb→lt x 256 (and_left (ltb x 256) _ h)
are_bytes_at (x ∷ file) h (suc i) = are_bytes_at file (and_right (ltb x 256) _ h) i

-- a list whose every element is below 256 is one of bytes
pub are_bytes_of : (xs : List ℕ) → ((i : ℕ) → get_or xs i 0 < 256) → T (are_bytes xs)
are_bytes_of [] h = tt
are_bytes_of (x ∷ xs) h = and_both (ltb x 256) (are_bytes xs) (lt→ltb x 256 (h 0)) (are_bytes_of xs (λ i. h (suc i)))

-- two lists of bytes make one
pub are_bytes_append : (xs ys : List ℕ) → T (are_bytes xs) → T (are_bytes ys) → T (are_bytes (xs ++ ys))
are_bytes_append [] ys s t = t
are_bytes_append (x ∷ xs) ys s t =
    and_both (ltb x 256) (are_bytes (xs ++ ys)) (and_left (ltb x 256) (are_bytes xs) s) (are_bytes_append xs ys (and_right (ltb x 256) (are_bytes xs) s) t)

-- numbers each below 256 are bytes
pub are_bytes_all : (xs : List ℕ) → T (all (λ x. ltb x 256) xs) → T (are_bytes xs)
unfolding all
are_bytes_all [] t = tt
are_bytes_all (x ∷ xs) t =
    and_both (ltb x 256) (are_bytes xs) (and_left (ltb x 256) (all (λ y. ltb y 256) xs) t) (are_bytes_all xs (and_right (ltb x 256) (all (λ y. ltb y 256) xs) t))

-- pieces of bytes make bytes
pub are_bytes_flatten {ℓ} : {A : Type ℓ} (f : A → List ℕ) (xs : List A) → ((x : A) → Memᴰ x xs → T (are_bytes (f x))) → T (are_bytes (flatten (map f xs)))
unfolding flatten
are_bytes_flatten f [] h = tt
are_bytes_flatten f (x ∷ xs) h = are_bytes_append (f x) (flatten (map f xs)) (h x (Memᴰ.head refl)) (are_bytes_flatten f xs (λ y m. h y (Memᴰ.tail m)))

-- a weight of three bytes is below 2 ^ 24
pub three_bytes-lt : (file : List ℕ) → T (are_bytes file) → (at : ℕ) → three_bytes file at < 2 ^ 24
unfolding three_bytes
three_bytes-lt file h at = omega (arith, are_bytes_at file h at, are_bytes_at file h (at + 1), are_bytes_at file h (at + 2))
