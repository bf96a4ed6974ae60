-- Laws of the dictionary order and of `lowest_first`: what decides is the lowest atom in which two sets differ, and of two sets of one size this is
-- the dictionary order of their lists. Assumes nothing.
use Prim.Native.Nat.compare
use Prim.Native.Nat.{ℕ, zero, suc, ◌+◌, ◌^◌, ◌≤◌, ◌<◌, compare, Ordering}
use native.Mathlib.Nat.{not-suc-le-zero}
use native.Mathlib.Omega.{arith}
use mathlib.Core.Path.{◌≡◌, refl, sym, ap, ap₂, ◌∙◌}
use mathlib.Core.Bool.{Bool, true, false, xor, cond}
use mathlib.Core.List.{List, [], ◌∷◌, Memᴰ}
use lib.Bits.{bit_xor, xor_lt}
use lib.Count.{count_trailing_zeros}
use lib.Dec.{eqb, ltb}
use lib.ListN.{length}
use borrow.Author.Tests.{eqb-true, eqb-false, ltb-true, ltb-false}
use Rattle.sets.specs.Lists.{keep, numbers_from, below}
use Rattle.sets.specs.Sets.{most_atoms, member, members, size}
use Rattle.sets.specs.Dictionary.{and_then, is_less, dictionary, differ, first_in, lowest_first}
use Rattle.sets.proofs.Laws.Lists.{keep_at, keep-none, any_none}
use Rattle.sets.proofs.Laws.Lists.Indices.{numbers_from-least}
use Rattle.sets.proofs.Laws.Sets.Counts.{IsLowest, trailing_lowest}
use Rattle.sets.proofs.Laws.Sets.Digits.{member_empty, member-xor, set_ext}
use Rattle.sets.proofs.Laws.Tests.{true_of_T}

-- ---- comparing two numbers

-- the lesser one first
pub compare_less : (m n : ℕ) → m < n → compare m n ≡ Ordering.lt
compare_less m zero l = absurd (not-suc-le-zero l)
compare_less zero (suc n) l = compare.zero-suc n
compare_less (suc m) (suc n) l = compare.suc-suc m n ∙ compare_less m n (omega arith)

-- the greater one first
pub compare_more : (m n : ℕ) → n < m → compare m n ≡ Ordering.gt
compare_more zero n l = absurd (not-suc-le-zero l)
compare_more (suc m) zero l = compare.suc-zero m
compare_more (suc m) (suc n) l = compare.suc-suc m n ∙ compare_more m n (omega arith)

-- a number with itself
pub compare_same : (n : ℕ) → compare n n ≡ Ordering.eq
compare_same zero = compare.zero-zero
compare_same (suc n) = compare.suc-suc n n ∙ compare_same n

-- numbers that the comparison calls equal are
pub compare_eq : (m n : ℕ) → compare m n ≡ Ordering.eq → m ≡ n
compare_eq zero zero e = refl
compare_eq zero (suc n) e = absurd (let z : ◌≡◌ {A = ℕ} 0 1 = cc (compare.zero-suc n) in omega arith)
compare_eq (suc m) zero e = absurd (let z : ◌≡◌ {A = ℕ} 0 1 = cc (compare.suc-zero m) in omega arith)
compare_eq (suc m) (suc n) e = ap suc (compare_eq m n (sym (compare.suc-suc m n) ∙ e))

-- whether the comparison says less is whether the number is less
pub compare_ltb : (m n : ℕ) → is_less (compare m n) ≡ ltb m n
unfolding is_less
compare_ltb m n = go (ltb m n) refl (eqb m n) refl
  where
    go : (b : Bool) → ltb m n ≡ b → (d : Bool) → eqb m n ≡ d → is_less (compare m n) ≡ b
    go true e d q = rw (compare_less m n (ltb-true m n e))
    go false e true q = rw (eqb-true m n q, compare_same n)
    go false e false q = let other : m ≡ n → ⊥ = eqb-false m n q in rw (compare_more m n (omega (arith, ltb-false m n e)))

-- .. and where the numbers differ, what would be compared next does not matter
pub compare_then : (m n : ℕ) (next : Ordering) → (m ≡ n → ⊥) → is_less (and_then (compare m n) next) ≡ ltb m n
unfolding is_less and_then
compare_then m n next other = go (ltb m n) refl
  where
    go : (b : Bool) → ltb m n ≡ b → is_less (and_then (compare m n) next) ≡ b
    go true e = rw (compare_less m n (ltb-true m n e))
    go false e = rw (compare_more m n (omega (arith, ltb-false m n e)))

-- ---- lists that the dictionary order calls equal

-- a list with itself
pub dictionary-same : (xs : List ℕ) → dictionary xs xs ≡ Ordering.eq
unfolding dictionary and_then
dictionary-same [] = refl
dictionary-same (x ∷ xs) = rw (compare_same x) (dictionary-same xs)

-- lists that it calls equal are
pub dictionary-eq : (xs ys : List ℕ) → dictionary xs ys ≡ Ordering.eq → xs ≡ ys
unfolding dictionary and_then
dictionary-eq [] [] e = refl
dictionary-eq [] (y ∷ ys) e = absurd (let z : ◌≡◌ {A = ℕ} 0 1 = cc in omega arith)
dictionary-eq (x ∷ xs) [] e = absurd (let z : ◌≡◌ {A = ℕ} 0 1 = cc in omega arith)
dictionary-eq (x ∷ xs) (y ∷ ys) e = go (compare x y) refl (dictionary-eq xs ys) e
  where
    go : (o : Ordering) → compare x y ≡ o → (dictionary xs ys ≡ Ordering.eq → xs ≡ ys) → and_then o (dictionary xs ys) ≡ Ordering.eq → x ∷ xs ≡ y ∷ ys
    go Ordering.lt q rest e = absurd (let z : ◌≡◌ {A = ℕ} 0 1 = cc in omega arith)
    go Ordering.eq q rest e = ap₂ {C = List ℕ} (λ z zs. z ∷ zs) (compare_eq x y q) (rest e)
    go Ordering.gt q rest e = absurd (let z : ◌≡◌ {A = ℕ} 0 1 = cc in omega arith)

-- where lists differ, what would be compared next does not matter
pub dictionary_then : (xs ys : List ℕ) (next : Ordering) → (xs ≡ ys → ⊥) → is_less (and_then (dictionary xs ys) next) ≡ is_less (dictionary xs ys)
unfolding is_less and_then
dictionary_then xs ys next other = go (dictionary xs ys) refl
  where
    go : (o : Ordering) → dictionary xs ys ≡ o → is_less (and_then o next) ≡ is_less o
    go Ordering.lt e = refl
    go Ordering.eq e = absurd (other (dictionary-eq xs ys e))
    go Ordering.gt e = refl

-- ---- the lowest difference decides

-- the atoms in which two sets differ are those of one number
differ-xor : (s t a : ℕ) → differ s t a ≡ member a (bit_xor s t)
unfolding differ
differ-xor s t a = sym (member-xor a s t)

-- a set does not differ from itself
differ_same : (s a : ℕ) → differ s s a ≡ false
unfolding differ xor
differ_same s a = go (member a s)
  where
    go : (b : Bool) → xor b b ≡ false
    go true = refl
    go false = refl

-- so the first of any atoms in which it does is not there
first_in-none : (s : ℕ) (xs : List ℕ) → first_in s (keep (differ s s) xs) ≡ false
unfolding first_in
first_in-none s xs = rw (keep-none (differ s s) xs (any_none (differ s s) xs (λ a m h. rw (differ_same s a) at h)))

-- of equal sets neither comes first
pub lowest_first-same : (s : ℕ) → lowest_first s s ≡ false
unfolding lowest_first
lowest_first-same s = first_in-none s _

module _ (s t a : ℕ) (lowest : IsLowest a (bit_xor s t)) where
  at_lowest : (k n : ℕ) → k ≤ a → a < k + n → first_in s (keep (differ s t) (numbers_from k n)) ≡ member a s
  unfolding first_in keep numbers_from
  at_lowest k zero l m = absurd (omega arith)
  at_lowest k (suc n) l m = go (eqb k a) refl (at_lowest (suc k) n)
    where
      rest : List ℕ
      rest = keep (differ s t) (numbers_from (suc k) n)

      go : (b : Bool) → eqb k a ≡ b → (suc k ≤ a → a < suc k + n → first_in s rest ≡ member a s)
          → first_in s (cond (differ s t k) (k ∷ rest) rest) ≡ member a s
      go true e later =
          let here : k ≡ a = eqb-true k a e in
          rw (here, differ-xor s t a, true_of_T (member a (bit_xor s t)) lowest.has)
      go false e later =
          let other : k ≡ a → ⊥ = eqb-false k a e in
          rw (differ-xor s t k, lowest.none_below k (omega arith)) (later (omega arith) (omega arith))

  -- what decides is the lowest atom in which they differ
  pub lowest_first_at : a < most_atoms → lowest_first s t ≡ member a s
  unfolding lowest_first below
  lowest_first_at l = at_lowest 0 most_atoms (omega arith) (omega arith)

-- two numbers of k digits that are not equal differ, first where the zeros of their differences stop
pub difference_lowest : (k s t : ℕ) → s < 2 ^ k → t < 2 ^ k → (s ≡ t → ⊥)
    → (count_trailing_zeros k (bit_xor s t) < k) × IsLowest (count_trailing_zeros k (bit_xor s t)) (bit_xor s t)
unfolding xor
difference_lowest k s t h l other = trailing_lowest k (bit_xor s t) (xor_lt k s t h l) (λ e. other (set_ext (λ a.
    same (member a s) (member a t) (sym (member-xor a s t) ∙ ap (member a) e ∙ member_empty a))))
  where
    same : (b c : Bool) → xor b c ≡ false → b ≡ c
    same true true e = refl
    same true false e = e
    same false true e = sym e
    same false false e = refl

-- ---- sets of one size

-- a list that begins lower than any element of one as long comes before it
comes_before : (k : ℕ) (xs ys : List ℕ) → ((y : ℕ) → Memᴰ y ys → k < y) → suc (length xs) ≡ length ys → dictionary (k ∷ xs) ys ≡ Ordering.lt
unfolding dictionary and_then
comes_before k xs [] h e = absurd (omega arith)
comes_before k xs (y ∷ ys) h e = rw (compare_less k y (h y (Memᴰ.head refl)))

-- .. and that one after it
comes_after : (k : ℕ) (xs ys : List ℕ) → ((x : ℕ) → Memᴰ x xs → k < x) → length xs ≡ suc (length ys) → dictionary xs (k ∷ ys) ≡ Ordering.gt
unfolding dictionary and_then
comes_after k [] ys h e = absurd (omega arith)
comes_after k (x ∷ xs) ys h e = rw (compare_more x k (h x (Memᴰ.head refl)))

module _ (s t : ℕ) where
  by_numbers : (k n : ℕ) → length (keep (λ a. member a s) (numbers_from k n)) ≡ length (keep (λ a. member a t) (numbers_from k n))
      → first_in s (keep (differ s t) (numbers_from k n)) ≡ is_less (dictionary (keep (λ a. member a s) (numbers_from k n)) (keep (λ a. member a t) (numbers_from k n)))
  unfolding first_in keep numbers_from differ xor dictionary is_less and_then
  by_numbers k zero e = refl
  by_numbers k (suc n) e = go (member k s) (member k t) refl (by_numbers (suc k) n) e
    where
      ss : List ℕ
      ss = keep (λ a. member a s) (numbers_from (suc k) n)

      ts : List ℕ
      ts = keep (λ a. member a t) (numbers_from (suc k) n)

      ds : List ℕ
      ds = keep (differ s t) (numbers_from (suc k) n)

      above : (u a : ℕ) → Memᴰ a (keep (λ a. member a u) (numbers_from (suc k) n)) → k < a
      above u a m = numbers_from-least (suc k) n (keep_at (λ a. member a u) (numbers_from (suc k) n) m).0

      go : (p q : Bool) → member k s ≡ p → (length ss ≡ length ts → first_in s ds ≡ is_less (dictionary ss ts))
          → length (cond p (k ∷ ss) ss) ≡ length (cond q (k ∷ ts) ts)
          → first_in s (cond (xor p q) (k ∷ ds) ds) ≡ is_less (dictionary (cond p (k ∷ ss) ss) (cond q (k ∷ ts) ts))
      go true true h rest e = rw (compare_same k) (rest (omega arith))
      go true false h rest e = rw (h, comes_before k ss ts (above t) e)
      go false true h rest e = rw (h, comes_after k ss ts (above s) e)
      go false false h rest e = rest e

  -- of two sets of one size, the one that has the lowest atom in which they differ has the list that comes first
  pub lowest_first-dictionary : size s ≡ size t → lowest_first s t ≡ is_less (dictionary (members s) (members t))
  unfolding lowest_first size members below
  lowest_first-dictionary e = by_numbers 0 most_atoms e
