-- Functions on lists that go by a test (a function into Bool), which the toolchain's libraries do not have, and two sums.
-- Nothing here is of document 01. Assumes nothing.
use Rattle.std.specs.Prelude.{ℕ, zero, suc, ◌+◌, ◌*◌, ◌-◌, Bool, true, false, not, ◌&&◌, ◌||◌, cond, List, [], ◌∷◌, ◌++◌, length, drop, replicate, ltb, eqb}

module _ {ℓ} {A : Type ℓ} where
  -- some element passes
  unfoldable pub any : (A → Bool) → List A → Bool
  any p [] = false
  any p (x ∷ xs) = p x || any p xs

  -- every element passes
  unfoldable pub all : (A → Bool) → List A → Bool
  all p [] = true
  all p (x ∷ xs) = p x && all p xs

  -- the elements that pass, in their order
  unfoldable pub keep : (A → Bool) → List A → List A
  keep p [] = []
  keep p (x ∷ xs) = cond (p x) (x ∷ keep p xs) (keep p xs)

  -- there is no element
  unfoldable pub is_empty : List A → Bool
  is_empty [] = true
  is_empty (x ∷ xs) = false

  -- filled up with `a` to a length of n
  unfoldable pub pad : ℕ → A → List A → List A
  pad n a xs = xs ++ replicate (n - length xs) a

-- all of them added up; 0 where there is none
unfoldable pub sum : List ℕ → ℕ
sum [] = 0
sum (x ∷ xs) = x + sum xs

-- all of them multiplied; 1 where there is none
unfoldable pub product : List ℕ → ℕ
product [] = 1
product (x ∷ xs) = x * product xs

-- n numbers from a on, ascending
unfoldable pub numbers_from : ℕ → ℕ → List ℕ
numbers_from a zero = []
numbers_from a (suc n) = a ∷ numbers_from (suc a) n

-- the numbers below n, ascending
unfoldable pub below : ℕ → List ℕ
below n = numbers_from 0 n

-- the numbers below n, descending
unfoldable pub below_down : ℕ → List ℕ
below_down zero = []
below_down (suc n) = n ∷ below_down n

-- x is among them
unfoldable pub among : List ℕ → ℕ → Bool
among xs x = any (λ y. eqb y x) xs

-- no number stands twice
unfoldable pub distinct : List ℕ → Bool
distinct [] = true
distinct (x ∷ rest) = not (among rest x) && distinct rest

-- each is less than the next
unfoldable pub ascending : List ℕ → Bool
ascending [] = true
ascending (x ∷ []) = true
ascending (x ∷ y ∷ rest) = ltb x y && ascending (y ∷ rest)

-- the same numbers in the same order
unfoldable pub same_numbers : List ℕ → List ℕ → Bool
same_numbers [] [] = true
same_numbers [] (y ∷ ys) = false
same_numbers (x ∷ xs) [] = false
same_numbers (x ∷ xs) (y ∷ ys) = eqb x y && same_numbers xs ys

-- nothing but zeros from index n on
unfoldable pub zero_from : ℕ → List ℕ → Bool
zero_from n xs = all (eqb 0) (drop n xs)
