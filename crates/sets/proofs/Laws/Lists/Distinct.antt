-- Laws of lists in which no number stands twice. Assumes nothing.
use Prim.Native.Nat.{ℕ, zero, suc, ◌+◌, ◌≤◌, ◌<◌}
use native.Mathlib.Omega.{arith}
use mathlib.Core.Path.{◌≡◌, refl, sym, ap, ◌∙◌}
use mathlib.Core.Bool.{Bool, true, false, not, ◌||◌, cond, true≢false}
use mathlib.Core.List.Memᴰ
use mathlib.Core.List.{List, [], ◌∷◌, ◌++◌, map, Memᴰ}
use lib.ListN.{length}
use lib.Dec.{T, ltb, eqb, ltb→lt}
use borrow.Author.Tests.{ltb-true, ltb-false, eqb-true, eqb-false, ne_eqb, not-true}
use Rattle.sets.specs.Lists.{any, all, keep, among, distinct}
use Rattle.sets.proofs.Laws.Lists.Ends.{any_append}
use Rattle.sets.proofs.Laws.Lists.{keep-none, keep_all, any_none, among_of}
use Rattle.sets.proofs.Laws.Tests.{true_of_T, and_both, and_left, and_right, false_of_T, or_false_left, or_false_right}

-- one number more, that is not among them
pub distinct_snoc : (xs : List ℕ) (x : ℕ) → T (distinct xs) → among xs x ≡ false → T (distinct (xs ++ (x ∷ [])))
unfolding distinct among any
distinct_snoc [] x h k = tt
distinct_snoc (y ∷ xs) x h k =
    let other : eqb x y ≡ false = ne_eqb x y (λ e. eqb-false y x (or_false_left (eqb y x) _ k) (sym e)) in
    and_both (not (any (λ z. eqb z y) (xs ++ (x ∷ [])))) _
    (rw any_append (new (any (λ z. eqb z y) xs) (eqb x y) (and_left (not (any (λ z. eqb z y) xs)) _ h) other))
    (distinct_snoc xs x (and_right (not (any (λ z. eqb z y) xs)) _ h) (or_false_right (eqb y x) _ k))
  where
    new : (s t : Bool) → T (not s) → t ≡ false → T (not (s || (t || false)))
    new true t h e = h
    new false true h e = true≢false e
    new false false h e = tt

-- the head is not among the rest
pub distinct_head : (x : ℕ) (xs : List ℕ) → T (distinct (x ∷ xs)) → among xs x ≡ false
unfolding distinct
distinct_head x xs h = not-true (among xs x) (true_of_T _ (and_left (not (among xs x)) _ h))

-- the rest is distinct too
pub distinct_tail : (x : ℕ) (xs : List ℕ) → T (distinct (x ∷ xs)) → T (distinct xs)
unfolding distinct
distinct_tail x xs h = and_right (not (among xs x)) _ h

-- each number stands there once at most
pub distinct-once : (m : ℕ) (xs : List ℕ) → T (distinct xs) → length (keep (λ z. eqb z m) xs) ≤ 1
unfolding keep among
distinct-once m [] h = omega arith
distinct-once m (x ∷ xs) h = go (eqb x m) refl (distinct-once m xs (distinct_tail x xs h))
  where
    go : (t : Bool) → eqb x m ≡ t → length (keep (λ z. eqb z m) xs) ≤ 1 → length (cond t (x ∷ keep (λ z. eqb z m) xs) (keep (λ z. eqb z m) xs)) ≤ 1
    go true e k = rw (rw (eqb-true x m e) at (keep-none (λ z. eqb z x) xs (distinct_head x xs h))) (omega arith)
    go false e k = k

-- the numbers below m + 1 are those below m, and m
keep-below-suc : (m : ℕ) (xs : List ℕ) → length (keep (λ x. ltb x (suc m)) xs) ≤ length (keep (λ x. ltb x m) xs) + length (keep (λ z. eqb z m) xs)
unfolding keep
keep-below-suc m [] = omega arith
keep-below-suc m (x ∷ xs) = go (ltb x (suc m)) (ltb x m) (eqb x m) refl refl refl (keep-below-suc m xs)
  where
    go : (r s t : Bool) → ltb x (suc m) ≡ r → ltb x m ≡ s → eqb x m ≡ t
        → length (keep (λ x. ltb x (suc m)) xs) ≤ length (keep (λ x. ltb x m) xs) + length (keep (λ z. eqb z m) xs)
        → length (cond r (x ∷ keep (λ x. ltb x (suc m)) xs) (keep (λ x. ltb x (suc m)) xs))
        ≤ length (cond s (x ∷ keep (λ x. ltb x m) xs) (keep (λ x. ltb x m) xs)) + length (cond t (x ∷ keep (λ z. eqb z m) xs) (keep (λ z. eqb z m) xs))
    go true true true a b c k = omega arith
    go true true false a b c k = omega arith
    go true false true a b c k = omega arith
    go true false false a b c k = absurd (eqb-false x m c (omega (arith, ltb-true x (suc m) a, ltb-false x m b)))
    go false true true a b c k = omega arith
    go false true false a b c k = omega arith
    go false false true a b c k = omega arith
    go false false false a b c k = omega arith

-- of distinct numbers, m at most are below m
pub distinct-below : (m : ℕ) (xs : List ℕ) → T (distinct xs) → length (keep (λ x. ltb x m) xs) ≤ m
distinct-below zero xs h = rw (keep-none (λ x. ltb x zero) xs (any_none (λ x. ltb x zero) xs (λ x m t. let l : x < zero = ltb→lt x zero t in omega arith))) (omega arith)
distinct-below (suc m) xs h = omega (arith, keep-below-suc m xs, distinct-below m xs h, distinct-once m xs h)

-- distinct numbers that are all below m are m at most
pub distinct-room : (m : ℕ) (xs : List ℕ) → T (distinct xs) → T (all (λ x. ltb x m) xs) → length xs ≤ m
distinct-room m xs h k = rw (keep_all (λ x. ltb x m) xs k) at (distinct-below m xs h)

-- a member of the rest has another image than the head
pub apart : {A : Type 0} (f : A → ℕ) (z : A) (xs : List A) → T (distinct (map f (z ∷ xs))) → (y : A) → Memᴰ y xs → f z ≡ f y → ⊥
apart f z xs h y n e = true≢false (sym (rw e (true_of_T (among (map f xs) (f y)) (among_of (Memᴰ.map f n)))) ∙ distinct_head (f z) (map f xs) h)

-- members with equal images are equal, where the images are distinct
pub distinct-members : {A : Type 0} (f : A → ℕ) (xs : List A) → T (distinct (map f xs)) → (x y : A) → Memᴰ x xs → Memᴰ y xs → f x ≡ f y → x ≡ y
distinct-members f [] h x y m _ e = elim m [ ]
distinct-members f (z ∷ xs) h x y (Memᴰ.head a) (Memᴰ.head b) e = a ∙ sym b
distinct-members f (z ∷ xs) h x y (Memᴰ.head a) (Memᴰ.tail n) e = absurd (apart f z xs h y n (sym (ap f a) ∙ e))
distinct-members f (z ∷ xs) h x y (Memᴰ.tail m) (Memᴰ.head b) e = absurd (apart f z xs h x m (sym (ap f b) ∙ sym e))
distinct-members f (z ∷ xs) h x y (Memᴰ.tail m) (Memᴰ.tail n) e = distinct-members f xs (distinct_tail (f z) (map f xs) h) x y m n e

-- where images are distinct, an element that alone passes is all that is kept
pub keep_one : {A : Type 0} (f : A → ℕ) (p : A → Bool) (h : A) (xs : List A) → T (distinct (map f xs)) → Memᴰ h xs → T (p h)
    → ((k : A) → Memᴰ k xs → T (p k) → f k ≡ f h) → keep p xs ≡ h ∷ []
unfolding keep
keep_one f p h [] d m t only = elim m [ ]
keep_one f p h (x ∷ xs) d (Memᴰ.head e) t only =
    rw (← e, true_of_T (p h) t, keep-none p xs (any_none p xs (λ k n u. apart f x xs d k n (ap f (sym e) ∙ sym (only k (Memᴰ.tail n) u)))))
keep_one f p h (x ∷ xs) d (Memᴰ.tail n) t only =
    rw (false_of_T (p x) (λ u. apart f x xs d h n (only x (Memᴰ.head refl) u)))
    (keep_one f p h xs (distinct_tail (f x) (map f xs) d) n t (λ k n u. only k (Memᴰ.tail n) u))
