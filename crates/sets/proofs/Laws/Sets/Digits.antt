-- Membership in a set of atoms, from the set's binary digits: in the empty set, in a union, in what two sets share and in what they differ, in a
-- number in two parts, in the set of one atom and in a set less an atom; sets with the same members are equal; a set below 2^n has its atoms
-- below n, and conversely. Every other law of sets follows from these. Assumes nothing.
use Prim.Native.Nat.{ℕ, zero, suc, ◌+◌, ◌-◌, ◌*◌, ◌/◌, ◌%◌, ◌^◌, ◌≤◌, ◌<◌}
use native.Mathlib.Nat.{not-suc-le-zero, pow-suc, div-one, zero-div}
use native.Mathlib.Decide.{dec_lt}
use native.Mathlib.Omega.{arith}
use mathlib.Core.Path.{◌≡◌, refl, sym, ap, ap₂, ◌∙◌, subst}
use mathlib.Core.Bool.{Bool, true, false, ◌&&◌, ◌||◌, not, xor, cond, and-true, and-false}
use lib.Arith.{bin_ind}
use lib.Pow.{pow_mono, pow_pos, shr-shr, high as high_part}
use lib.Bits.{bit_or, bit_and, bit_xor, or_shr, or_mod, and_shr, and_mod, xor_shr, xor_mod, block_half, block_odd}
use lib.Dec.{T, eqb, eqb→eq, ltb→lt, lt→ltb, eqb-zero-suc, eqb-suc-zero, eqb-suc-suc}
use borrow.Author.Tests.{eqb-true}
use Rattle.sets.proofs.Laws.Tests.{T_of_true, false_of_T}
use Rattle.sets.specs.Sets.{member, union, without, all_below}

-- ---- one digit at a time

below_two : (x : ℕ) → x % 2 < 2
below_two x = omega arith

-- 0 is a member exactly if the lowest digit is set
pub member-zero : (s : ℕ) → member 0 s ≡ eqb (s % 2) 1
unfolding member
member-zero s = ap (λ (x : ℕ). eqb (x % 2) 1) (div-one s)

odd : (s : ℕ) → T (member 0 s) → s % 2 ≡ 1
odd s h = eqb→eq (s % 2) 1 (subst T (member-zero s) h)

-- a number above 0 is a member exactly if the one below it is one of the half
pub member-suc : (a s : ℕ) → member (suc a) s ≡ member a (s / 2)
unfolding member
member-suc a s =
    let e : suc a ≡ 1 + a = omega arith in
    ap (λ (x : ℕ). eqb (x % 2) 1) (ap (λ (k : ℕ). s / 2 ^ k) e ∙ sym (shr-shr s 1 a))

-- ---- the empty set

-- the empty set has no member
pub member_empty : (a : ℕ) → member a 0 ≡ false
unfolding member
member_empty a = ap (λ (x : ℕ). eqb (x % 2) 1) (zero-div (2 ^ a))

-- ---- a union, the atoms in both sets, and those in one alone

-- an operation that goes digit by digit, by what it does to two digits
module _ (f : ℕ → ℕ → ℕ) (g : Bool → Bool → Bool)
    (quotient : (s t k : ℕ) → f s t / 2 ^ k ≡ f (s / 2 ^ k) (t / 2 ^ k)) (remainder : (s t k : ℕ) → f s t % 2 ^ k ≡ f (s % 2 ^ k) (t % 2 ^ k))
    (none : eqb (f 0 0) 1 ≡ g false false) (right : eqb (f 0 1) 1 ≡ g false true) (left : eqb (f 1 0) 1 ≡ g true false) (both : eqb (f 1 1) 1 ≡ g true true) where
  digits : (x y : ℕ) → x < 2 → y < 2 → eqb (f x y) 1 ≡ g (eqb x 1) (eqb y 1)
  digits zero zero h k = none
  digits zero (suc zero) h k = right
  digits (suc zero) zero h k = left
  digits (suc zero) (suc zero) h k = both
  digits zero (suc (suc y)) h k = absurd (omega arith)
  digits (suc zero) (suc (suc y)) h k = absurd (omega arith)
  digits (suc (suc x)) y h k = absurd (omega arith)

  member_digits : (a s t : ℕ) → member a (f s t) ≡ g (member a s) (member a t)
  unfolding member
  member_digits a s t =
      ap (λ (x : ℕ). eqb (x % 2) 1) (quotient s t a)
      ∙ ap (λ (x : ℕ). eqb x 1) (remainder (s / 2 ^ a) (t / 2 ^ a) 1)
      ∙ digits (s / 2 ^ a % 2) (t / 2 ^ a % 2) (below_two (s / 2 ^ a)) (below_two (t / 2 ^ a))

-- an atom is in a union exactly if it is in one of the two
pub member_union : (a s t : ℕ) → member a (union s t) ≡ (member a s || member a t)
unfolding union
member_union = member_digits bit_or ◌||◌ or_shr or_mod refl refl refl refl

-- an atom is in the digits that two numbers share exactly if it is in both
pub member-and : (a s t : ℕ) → member a (bit_and s t) ≡ (member a s && member a t)
member-and = member_digits bit_and ◌&&◌ and_shr and_mod refl refl refl refl

-- an atom is in the digits in which two numbers differ exactly if it is in one of them alone
pub member-xor : (a s t : ℕ) → member a (bit_xor s t) ≡ xor (member a s) (member a t)
unfolding xor
member-xor = member_digits bit_xor xor xor_shr xor_mod refl refl refl refl

-- ---- a number in two parts

-- an atom below k is in a number of k low digits and others above them exactly if it is in the low part
pub member-low : (a k high low : ℕ) → a < k → member a (high * 2 ^ k + low) ≡ member a low
member-low a zero high low l = absurd (not-suc-le-zero l)
member-low zero (suc k) high low l = member-zero (high * 2 ^ suc k + low) ∙ ap (λ (x : ℕ). eqb x 1) (block_odd high k low) ∙ sym (member-zero low)
member-low (suc a) (suc k) high low l =
    member-suc a (high * 2 ^ suc k + low) ∙ ap (member a) (block_half high k low) ∙ member-low a k high (low / 2) (omega arith) ∙ sym (member-suc a low)

-- an atom from k on is in it exactly if it is in the high part, k lower
pub member-high : (a k high low : ℕ) → low < 2 ^ k → member (k + a) (high * 2 ^ k + low) ≡ member a high
unfolding member
member-high a k high low l =
    ap (λ (x : ℕ). eqb (x % 2) 1) (sym (shr-shr (high * 2 ^ k + low) k a) ∙ ap (λ (x : ℕ). x / 2 ^ a) (high_part high k l))

-- all of the k lowest atoms are in the number of k ones
pub member_full : (a k : ℕ) → a < k → T (member a (2 ^ k - 1))
member_full a zero l = absurd (not-suc-le-zero l)
member_full zero (suc k) l =
    let e : (2 ^ suc k - 1) % 2 ≡ 1 = omega (arith, pow-suc 2 k, pow_pos k) in
    subst T (sym (member-zero (2 ^ suc k - 1) ∙ ap (λ (x : ℕ). eqb x 1) e)) tt
member_full (suc a) (suc k) l =
    let e : (2 ^ suc k - 1) / 2 ≡ 2 ^ k - 1 = omega (arith, pow-suc 2 k, pow_pos k) in
    subst T (sym (member-suc a (2 ^ suc k - 1) ∙ ap (member a) e)) (member_full a k (omega arith))

-- ---- the set of one atom

-- an atom is in the set of one atom exactly if it is that one
pub member_single : (a b : ℕ) → member a (2 ^ b) ≡ eqb b a
member_single zero zero = member-zero 1
member_single zero (suc b) =
    let e : 2 ^ suc b % 2 ≡ 0 = omega (arith, pow-suc 2 b) in
    member-zero (2 ^ suc b) ∙ ap (λ (x : ℕ). eqb x 1) e ∙ sym (eqb-suc-zero b)
member_single (suc a) zero = member-suc a 1 ∙ member_empty a ∙ sym (eqb-zero-suc a)
member_single (suc a) (suc b) =
    let e : 2 ^ suc b / 2 ≡ 2 ^ b = omega (arith, pow-suc 2 b) in
    member-suc a (2 ^ suc b) ∙ ap (member a) e ∙ member_single a b ∙ sym (eqb-suc-suc b a)

-- ---- a set less an atom

-- a member's power is in the number
pub member_power : (a s : ℕ) → T (member a s) → 2 ^ a ≤ s
member_power zero s h =
    let e : s % 2 ≡ 1 = odd s h in
    omega arith
member_power (suc a) s h =
    let k : 2 ^ a ≤ s / 2 = member_power a (s / 2) (subst T (member-suc a s) h) in
    omega (arith, pow-suc 2 a)

-- the atoms of a set less a member's power
less_power : (a b s : ℕ) → T (member b s) → member a (s - 2 ^ b) ≡ (member a s && not (eqb b a))
less_power zero zero s h =
    let e : s % 2 ≡ 1 = odd s h in
    let f : (s - 2 ^ 0) % 2 ≡ 0 = omega arith in
    member-zero (s - 2 ^ 0) ∙ ap (λ (x : ℕ). eqb x 1) f ∙ sym (and-false (member zero s))
less_power (suc a) zero s h =
    let e : s % 2 ≡ 1 = odd s h in
    let f : (s - 2 ^ 0) / 2 ≡ s / 2 = omega arith in
    member-suc a (s - 2 ^ 0) ∙ ap (member a) f ∙ sym (member-suc a s) ∙ sym (and-true (member (suc a) s)) ∙ ap (λ (t : Bool). member (suc a) s && not t) (sym (eqb-zero-suc a))
less_power zero (suc b) s h =
    let k : 2 ^ b ≤ s / 2 = member_power b (s / 2) (subst T (member-suc b s) h) in
    let f : (s - 2 ^ suc b) % 2 ≡ s % 2 = omega (arith, pow-suc 2 b) in
    member-zero (s - 2 ^ suc b) ∙ ap (λ (x : ℕ). eqb x 1) f ∙ sym (member-zero s) ∙ sym (and-true (member zero s)) ∙ ap (λ (t : Bool). member zero s && not t) (sym (eqb-suc-zero b))
less_power (suc a) (suc b) s h =
    let l : T (member b (s / 2)) = subst T (member-suc b s) h in
    let k : 2 ^ b ≤ s / 2 = member_power b (s / 2) l in
    let f : (s - 2 ^ suc b) / 2 ≡ s / 2 - 2 ^ b = omega (arith, pow-suc 2 b) in
    member-suc a (s - 2 ^ suc b) ∙ ap (member a) f ∙ less_power a b (s / 2) l ∙ ap₂ (λ (t u : Bool). t && not u) (sym (member-suc a s)) (sym (eqb-suc-suc b a))

-- an atom is in a set less another exactly if it is in the set and not the other
pub member-without : (a b s : ℕ) → member a (without b s) ≡ (member a s && not (eqb b a))
unfolding without
member-without a b s = go (member b s) refl
  where
    stays : (t : Bool) → eqb b a ≡ t → member b s ≡ false → member a s ≡ (member a s && not t)
    stays true e h = let q : b ≡ a = eqb-true b a e in ap (λ (x : ℕ). member x s) (sym q) ∙ h ∙ sym (and-false (member a s))
    stays false e h = sym (and-true (member a s))

    go : (t : Bool) → member b s ≡ t → member a (cond t (s - 2 ^ b) s) ≡ (member a s && not (eqb b a))
    go true e = less_power a b s (T_of_true e)
    go false e = stays (eqb b a) refl e

-- ---- the same members

digit_eq : (x y : ℕ) → x < 2 → y < 2 → eqb x 1 ≡ eqb y 1 → x ≡ y
digit_eq zero zero h k e = refl
digit_eq zero (suc zero) h k e = eqb-true 0 1 e
digit_eq zero (suc (suc y)) h k e = absurd (omega arith)
digit_eq (suc zero) zero h k e = sym (eqb-true 0 1 (sym e))
digit_eq (suc zero) (suc zero) h k e = refl
digit_eq (suc zero) (suc (suc y)) h k e = absurd (omega arith)
digit_eq (suc (suc x)) y h k e = absurd (omega arith)

abbrev Same : ℕ → ℕ → Type 0
Same s t = (a : ℕ) → member a s ≡ member a t

same_digit : (s t : ℕ) → Same s t → s % 2 ≡ t % 2
same_digit s t h = digit_eq (s % 2) (t % 2) (below_two s) (below_two t) (sym (member-zero s) ∙ h 0 ∙ member-zero t)

same_half : (s t : ℕ) → Same s t → Same (s / 2) (t / 2)
same_half s t h a = sym (member-suc a s) ∙ h (suc a) ∙ member-suc a t

same_empty : (t : ℕ) → Same 0 t → 0 ≡ t
same_empty =
    bin_ind (λ (t : ℕ). Same 0 t → 0 ≡ t) (λ h. refl)
    (λ t ih h. let e : 0 ≡ t / 2 = ih (same_half 0 t h) in let d : 0 % 2 ≡ t % 2 = same_digit 0 t h in omega arith)

-- sets with the same members are equal
pub set_ext : {s t : ℕ} → ((a : ℕ) → member a s ≡ member a t) → s ≡ t
set_ext {s} {t} same =
    bin_ind (λ (s : ℕ). (t : ℕ) → Same s t → s ≡ t) same_empty
    (λ s ih t h. let e : s / 2 ≡ t / 2 = ih (t / 2) (same_half s t h) in let d : s % 2 ≡ t % 2 = same_digit s t h in omega arith) s t same

-- ---- the atoms below a number

-- an atom of a set of atoms below n is below n
pub all_below_at : (n s a : ℕ) → T (all_below n s) → T (member a s) → a < n
unfolding all_below
all_below_at n s a h k = go (dec_lt a n)
  where
    go : Dec (a < n) → a < n
    go (yes l) = l
    go (no f) =
        let l : n ≤ a = omega arith in
        let p : s < 2 ^ n = ltb→lt s (2 ^ n) h in
        let q : 2 ^ n ≤ 2 ^ a = pow_mono l in
        let r : 2 ^ a ≤ s = member_power a s k in
        omega arith

-- if every atom of a set is below n, it is a set of atoms below n
pub all_below-of : (n s : ℕ) → ((a : ℕ) → T (member a s) → a < n) → T (all_below n s)
unfolding all_below
all_below-of n s h = lt→ltb s (2 ^ n) (go n s h)
  where
    go : (n s : ℕ) → ((a : ℕ) → T (member a s) → a < n) → s < 2 ^ n
    go zero s h =
        let e : 0 ≡ s = same_empty s (λ a. member_empty a ∙ sym (false_of_T (member a s) (λ k. not-suc-le-zero (h a k)))) in
        omega arith
    go (suc n) s h =
        let l : s / 2 < 2 ^ n = go n (s / 2) (λ a k. let m : suc a < suc n = h (suc a) (subst T (sym (member-suc a s)) k) in omega arith) in
        omega (arith, pow-suc 2 n)
