-- Laws of `pad`, a list that is filled up to a length, as an array is whose first elements are in use: its length, what stands in it, and what
-- storing at the first unused indices makes of it; which arrays are padded lists; and of arrays that are zero from an index on. Assumes nothing.
use mathlib.Core.Path.{◌≡◌, refl, sym, ap₂, ◌∙◌}
use mathlib.Core.Bool.{Bool, true, false, ◌&&◌, and_assoc}
use mathlib.Core.List.{List, [], ◌∷◌, ◌++◌, append_assoc, append-nil}
use Prim.Native.Nat.{ℕ, zero, suc, ◌+◌, ◌-◌, ◌≤◌, ◌<◌}
use native.Mathlib.Nat.{sub-zero, zero-sub, suc-sub-suc}
use native.Mathlib.Omega.{arith}
use lib.Dec.{T, eqb, eqb→eq, eqb_refl}
use lib.Bits.{bit_or, or_add_and, and_le_l, and_le_r}
use lib.ListN.{length, get_or, take, drop, set, replicate, length-append, length-drop, length-replicate, take-append-drop, drop_of_length-le}
use lib.Seq.{drop-cons, length-take-le, take-append_seam, drop-append-add, drop_at, set-append_seam}
use Rattle.sets.specs.Lists.{all, keep, pad, zero_from}
use Rattle.sets.proofs.Laws.Lists.Ends.{all_append, keep_append}
use Rattle.sets.proofs.Laws.Lists.{keep_all}
use Rattle.sets.proofs.Laws.Tests.{T_ext, and_both, and_left, and_right}

module _ {ℓ} {A : Type ℓ} where
  -- ---- runs of one value

  -- a run without its first m is a shorter run
  pub drop-replicate : (m n : ℕ) (a : A) → drop m (replicate n a) ≡ replicate (n - m) a
  drop-replicate zero n a = rw sub-zero
  drop-replicate (suc m) zero a = rw zero-sub
  drop-replicate (suc m) (suc n) a = rw suc-sub-suc (drop-replicate m n a)

  -- the default after a list adds nothing to read
  pub get_d_append_replicate : (xs : List A) (m i : ℕ) (a : A) → get_or (xs ++ replicate m a) i a ≡ get_or xs i a
  get_d_append_replicate [] zero i a = refl
  get_d_append_replicate [] (suc m) zero a = refl
  get_d_append_replicate [] (suc m) (suc i) a = get_d_append_replicate [] m i a
  get_d_append_replicate (x ∷ xs) m zero a = refl
  get_d_append_replicate (x ∷ xs) m (suc i) a = get_d_append_replicate xs m i a

  -- a run passes if its value does
  pub all_replicate : (p : A → Bool) (a : A) → T (p a) → (n : ℕ) → T (all p (replicate n a))
  unfolding all
  all_replicate p a t zero = tt
  all_replicate p a t (suc n) = and_both (p a) (all p (replicate n a)) t (all_replicate p a t n)

  -- nothing is kept of a run whose value does not pass
  pub keep-replicate : (p : A → Bool) (a : A) → p a ≡ false → (n : ℕ) → keep p (replicate n a) ≡ []
  unfolding keep
  keep-replicate p a e zero = refl
  keep-replicate p a e (suc n) = rw e (keep-replicate p a e n)

  -- ---- what a padded list holds

  -- it has the length asked for
  pub length-pad : (n : ℕ) (a : A) (xs : List A) → length xs ≤ n → length (pad n a xs) ≡ n
  unfolding pad
  length-pad n a xs h = simp (length-append, length-replicate) (omega arith)

  -- what the list has, and past its end the filling
  pub get_d_pad : (n : ℕ) (a : A) (xs : List A) (i : ℕ) → get_or (pad n a xs) i a ≡ get_or xs i a
  unfolding pad
  get_d_pad n a xs i = get_d_append_replicate xs (n - length xs) i a

  -- every element of the list filled up passes if the list's and the filling do
  pub all-pad : (p : A → Bool) (n : ℕ) (a : A) (xs : List A) → T (p a) → T (all p xs) → T (all p (pad n a xs))
  unfolding pad
  all-pad p n a xs s t = rw all_append (and_both (all p xs) _ t (all_replicate p a s (n - length xs)))

  -- a list whose elements pass, filled up with what does not, and then kept, is the list
  pub keep-pad : (p : A → Bool) (n : ℕ) (a : A) (xs : List A) → p a ≡ false → T (all p xs) → keep p (pad n a xs) ≡ xs
  unfolding pad
  keep-pad p n a xs e t =
      keep_append p xs (replicate (n - length xs) a) ∙ ap₂ {C = List A} (λ s u. s ++ u) (keep_all p xs t) (keep-replicate p a e (n - length xs)) ∙ append-nil xs

  -- ---- storing at the first unused indices

  -- one value
  pub set-pad : (n : ℕ) (a : A) (xs : List A) (v : A) → length xs < n → set (pad n a xs) (length xs) v ≡ pad n a (xs ++ (v ∷ []))
  unfolding pad
  set-pad n a xs v h =
      let one : n - length xs ≡ suc (n - (length xs + 1)) = omega arith in
      rw (one, set-append_seam, length-append, append_assoc)

  -- a run of values, from k on
  pub splice_pad : (n k : ℕ) (a : A) (xs ys : List A) → length xs ≡ k → k + length ys ≤ n
      → take k (pad n a xs) ++ ys ++ drop (k + length ys) (pad n a xs) ≡ pad n a (xs ++ ys)
  unfolding pad
  splice_pad n k a xs ys e h =
      let left : n - length xs - length ys ≡ n - (length xs + length ys) = omega arith in
      rw (← e, take-append_seam, drop-append-add, drop-replicate, left, length-append)

-- ---- arrays of numbers that are padded lists

-- a list of nothing but a is a run of a
pub replicate-of-same : (a : ℕ) (xs : List ℕ) → T (all (eqb a) xs) → replicate (length xs) a ≡ xs
unfolding all
replicate-of-same a [] h = refl
replicate-of-same a (x ∷ xs) h =
    ap₂ {C = List ℕ} (λ y ys. y ∷ ys) (eqb→eq a x (and_left (eqb a x) (all (eqb a) xs) h)) (replicate-of-same a xs (and_right (eqb a x) (all (eqb a) xs) h))

-- an array with nothing but a from k on is its first k elements, padded
pub pad-take : (n k a : ℕ) (xs : List ℕ) → length xs ≡ n → k ≤ n → T (all (eqb a) (drop k xs)) → pad n a (take k xs) ≡ xs
unfolding pad
pad-take n k a xs e l h =
    let room : n - length (take k xs) ≡ length (drop k xs) = omega (arith, length-take-le k xs (omega arith), length-drop k xs) in
    rw (room, replicate-of-same a (drop k xs) h) (take-append-drop k xs)

-- a padded list has nothing but a from its end on
pub drop-pad-same : (n k a : ℕ) (xs : List ℕ) → length xs ≡ k → T (all (eqb a) (drop k (pad n a xs)))
unfolding pad
drop-pad-same n k a xs e = rw (drop_at xs (replicate (n - length xs) a) k e) (all_replicate (eqb a) a (eqb_refl a) (n - length xs))

-- ---- zero from an index on

-- joined digits are 0 exactly if both are
pub or-zero : (a b : ℕ) → eqb (bit_or a b) 0 ≡ (eqb a 0 && eqb 0 b)
or-zero a b =
    T_ext (eqb (bit_or a b) 0) (eqb a 0 && eqb 0 b)
    (λ t.
    let none : bit_or a b ≡ 0 = eqb→eq (bit_or a b) 0 t in
    let left : a ≡ 0 = omega (arith, or_add_and a b, and_le_r a b) in
    let right : 0 ≡ b = omega (arith, or_add_and a b, and_le_l a b) in
    and_both (eqb a 0) (eqb 0 b) (rw left tt) (rw (← right) tt))
    (λ t.
    let left : a ≡ 0 = eqb→eq a 0 (and_left (eqb a 0) (eqb 0 b) t) in
    let right : 0 ≡ b = eqb→eq 0 b (and_right (eqb a 0) (eqb 0 b) t) in
    rw (left, ← right) tt)

module _ (i : ℕ) (xs : List ℕ) where
  -- nothing is left past the end
  pub zero_from_past : length xs ≤ i → zero_from i xs ≡ true
  unfolding zero_from all
  zero_from_past h = rw (drop_of_length-le xs h)

  -- one number more is looked at
  pub zero_from-more : i < length xs → (digits : ℕ) → (eqb digits 0 && zero_from i xs) ≡ (eqb (bit_or digits (get_or xs i 0)) 0 && zero_from (suc i) xs)
  unfolding zero_from all
  zero_from-more h digits = rw (drop-cons xs i 0 h, or-zero) (sym (and_assoc (eqb digits 0) (eqb 0 (get_or xs i 0)) (zero_from (suc i) xs)))
