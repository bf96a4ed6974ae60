-- Sets of atoms. Document 01 reads a pending set "as a number (the sum of 2^atom)"; here every set of atoms is that number, so an atom is a
-- member exactly if its binary digit is set. Two sets are equal exactly if they are the same number. Assumes nothing.
use Rattle.std.specs.Prelude.{ℕ, zero, suc, ◌-◌, ◌/◌, ◌%◌, ◌^◌, ◌+◌, ◌*◌, Bool, true, false, cond, List, [], ◌∷◌, length, eqb, ltb}
use Rattle.std.specs.Int.Bits.{bit_or}
use Rattle.sets.specs.Lists.{any, keep, below}

-- "1 to 128 atoms, numbered from 0": no set here has an atom past these
abbrev pub most_atoms : ℕ
most_atoms = 128

-- a is in s
unfoldable pub member : ℕ → ℕ → Bool
member a s = eqb (s / 2 ^ a % 2) 1

-- the atoms in s or in t
unfoldable pub union : ℕ → ℕ → ℕ
union s t = bit_or s t

-- s and a
unfoldable pub with : ℕ → ℕ → ℕ
with a s = union s (2 ^ a)

-- s less a
unfoldable pub without : ℕ → ℕ → ℕ
without a s = cond (member a s) (s - 2 ^ a) s

-- the set of the atoms listed
unfoldable pub set_of : List ℕ → ℕ
set_of [] = 0
set_of (a ∷ rest) = with a (set_of rest)

-- every atom of s is in t
unfoldable pub subset : ℕ → ℕ → Bool
subset s t = eqb (union s t) t

-- every atom of s is below n
unfoldable pub all_below : ℕ → ℕ → Bool
all_below n s = ltb s (2 ^ n)

-- "the ascending list of D's atom numbers"
unfoldable pub members : ℕ → List ℕ
members s = keep (λ a. member a s) (below most_atoms)

-- how many atoms s has
unfoldable pub size : ℕ → ℕ
size s = length (members s)

-- some atom of s is in t
unfoldable pub meets : ℕ → ℕ → Bool
meets s t = any (λ a. member a t) (members s)

-- the highest atom of s that is below n; 0 where there is none
unfoldable pub highest_below : ℕ → ℕ → ℕ
highest_below zero s = 0
highest_below (suc n) s = elim (member n s) [ true ↦ n | false ↦ highest_below n s ]

-- the highest atom of s
unfoldable pub highest : ℕ → ℕ
highest s = highest_below most_atoms s

-- a set out of its two words, as the code holds it: atoms 0 to 63 in the low one, 64 to 127 in the high one
abbrev pub words : ℕ → ℕ → ℕ
words low_word high_word = high_word * 2 ^ 64 + low_word
