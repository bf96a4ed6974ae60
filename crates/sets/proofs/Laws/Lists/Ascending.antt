-- Laws of `ascending`, one number at a time and by indices. Assumes nothing.
use mathlib.Core.Path.{◌≡◌, refl}
use mathlib.Core.Bool.{Bool, true, ◌&&◌}
use mathlib.Core.List.{List, [], ◌∷◌}
use Prim.Native.Nat.{ℕ, zero, suc, ◌<◌}
use native.Mathlib.Omega.{arith}
use lib.Dec.{T, leb, leb-zero, ltb, ltb→lt, lt→ltb}
use lib.ListN.{length, get_or}
use Rattle.sets.specs.Lists.{is_empty, ascending}
use Rattle.sets.proofs.Laws.Tests.{and_both, and_left, and_right}

-- ascending, and the first number is `least` or above
unfoldable pub ascending_from : ℕ → List ℕ → Bool
ascending_from least [] = true
ascending_from least (x ∷ xs) = leb least x && ascending (x ∷ xs)

-- the numbers after x ascend from the one above it
pub ascending-next : (x : ℕ) (xs : List ℕ) → ascending (x ∷ xs) ≡ ascending_from (suc x) xs
unfolding ascending ascending_from
ascending-next x [] = refl
ascending-next x (y ∷ ys) = refl

-- every number is 0 or above
pub ascending_from-zero : (xs : List ℕ) → ascending_from 0 xs ≡ ascending xs
unfolding ascending ascending_from
ascending_from-zero [] = refl
ascending_from-zero (x ∷ xs) = rw leb-zero

-- no numbers ascend
pub is_empty-ascending : (least : ℕ) (xs : List ℕ) → is_empty xs ≡ (is_empty xs && ascending_from least xs)
unfolding is_empty ascending_from
is_empty-ascending least [] = refl
is_empty-ascending least (x ∷ xs) = refl

-- ---- by indices

-- numbers of which each is less than the next ascend ..
pub ascending_everywhere : (xs : List ℕ) → ((i : ℕ) → suc i < length xs → get_or xs i 0 < get_or xs (suc i) 0) → T (ascending xs)
unfolding ascending
ascending_everywhere [] h = tt
ascending_everywhere (x ∷ []) h = tt
ascending_everywhere (x ∷ y ∷ rest) h =
    and_both (ltb x y) (ascending (y ∷ rest)) (lt→ltb x y (h 0 (omega arith))) (ascending_everywhere (y ∷ rest) (λ i l. h (suc i) (omega arith)))

-- .. and of ascending numbers each is less than the next
pub ascending_at : (xs : List ℕ) (i : ℕ) → T (ascending xs) → suc i < length xs → get_or xs i 0 < get_or xs (suc i) 0
unfolding ascending
ascending_at [] i h l = absurd (omega arith)
ascending_at (x ∷ []) i h l = absurd (omega arith)
ascending_at (x ∷ y ∷ rest) zero h l = ltb→lt x y (and_left (ltb x y) (ascending (y ∷ rest)) h)
ascending_at (x ∷ y ∷ rest) (suc i) h l = ascending_at (y ∷ rest) i (and_right (ltb x y) (ascending (y ∷ rest)) h) (omega arith)
