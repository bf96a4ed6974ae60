-- Laws of sets in two words: what each operation on sets does to the low word and to the high one. Nothing above has to look at a word. Assumes
-- nothing.
pub mod Counts
use Prim.Native.Nat.{ℕ, ◌+◌, ◌-◌, ◌*◌, ◌^◌, ◌≤◌, ◌<◌, ◌/◌, ◌%◌}
use native.Mathlib.Nat.{one-mul, mod-eq_of_lt}
use native.Mathlib.Omega.{arith}
use mathlib.Core.Path.{◌≡◌, refl, sym, ap, ◌∙◌}
use mathlib.Core.Bool.{Bool, true, false, not, ◌&&◌, and_comm, cond}
use mathlib.Core.List.{List, [], ◌∷◌, ◌++◌}
use lib.Arith.{digits_lt}
use lib.Bits.{bit_or, bit_and, bit_xor, or_block, or_lt, or_zero_r, and_block, and_mask, and_le_l, and_le_r, xor_add_and, xor_self}
use lib.Dec.{T, eqb, eqb→eq, eqb_refl, ltb, lt→ltb}
use lib.Pow.{pow-lt, pow-add, pow_pos}
use borrow.Author.Tests.{lt-ltb, le-ltb, eqb-true, eqb-false, ne_eqb}
use Rattle.std.proofs.Common.{Ordering, Less, Equal, Greater}
use Rattle.std.specs.Ordering.{is_lt, nat_cmp, is_some_and, partial_ordering_then, partial_lt}
use Rattle.std.specs.Prelude.{Some}
use Rattle.sets.specs.Masks.{mask_means, with_atom}
use Rattle.sets.specs.Lists.{keep}
use Rattle.sets.specs.Sets.{most_atoms, member, union, with, without, set_of, subset, meets, all_below, words}
use Rattle.sets.specs.contracts.mask.MaskPartialEq.TheImpl as mask_equal
use Rattle.sets.specs.contracts.mask.MaskPartialOrd.TheImpl as mask_order
use Rattle.sets.specs.declared.mask.Mask.{Mask}
use Rattle.sets.proofs.Laws.Sets.Bounds.{without-member}
use Rattle.sets.proofs.Laws.Sets.Digits.{member-and, member-low, member-high, member_full, member_power, member-without, set_ext, all_below_at}
use Rattle.sets.proofs.Laws.Sets.Meets.{meets-and}
use Rattle.sets.proofs.Laws.Lists.Ends.{keep_snoc_true, keep_snoc_false}
use Rattle.sets.proofs.Laws.Lists.Padding.{or-zero}
use Rattle.sets.proofs.Laws.Sets.{set_of_snoc}
use Rattle.sets.proofs.Laws.Tests.{T_ext, T_of_true, true_of_T, false_of_T, eqb_ext, ltb_ext, and_cong_right}

-- ---- what a mask means

module _ (m : Mask) (low : m.low < 2 ^ 64) (high : m.high < 2 ^ 64) where
  -- a mask is below 2^128 ..
  pub mask_means_less : mask_means m < 2 ^ most_atoms
  unfolding mask_means
  mask_means_less = digits_lt high low

  -- .. so its atoms are below 128
  pub mask_means-below : T (all_below most_atoms (mask_means m))
  unfolding all_below
  mask_means-below = lt→ltb (mask_means m) (2 ^ most_atoms) mask_means_less

-- masks that mean one set have the same words
pub mask_means_injective : (m n : Mask) → m.low < 2 ^ 64 → n.low < 2 ^ 64 → mask_means m ≡ mask_means n → (m.low ≡ n.low) × (m.high ≡ n.high)
unfolding mask_means
mask_means_injective m n h k e = omega arith

-- ---- one digit of one word

-- the digit of an atom, as code shifts it, does not leave its word
pub shifted : (a : ℕ) → a < 64 → 1 * 2 ^ a % 2 ^ 64 ≡ 2 ^ a
shifted a l = rw one-mul (mod-eq_of_lt (pow-lt l))

-- the digit that code shifts down and cuts off says whether its atom is a member
pub digit_member : (a w : ℕ) → eqb (bit_and (w / 2 ^ a) 1) 1 ≡ member a w
unfolding member
digit_member a w = ap (λ (x : ℕ). eqb x 1) (and_mask (w / 2 ^ a) 1)

-- an atom from 64 on is as many past 64 in the high word
past : (a : ℕ) → 64 ≤ a → 64 + (a - 64) ≡ a
past a h = omega arith

module _ (low high : ℕ) (l : low < 2 ^ 64) where
  -- ---- membership

  -- an atom below 64 is in the low word ..
  pub member-low-word : (a : ℕ) → a < 64 → member a low ≡ member a (words low high)
  member-low-word a h = sym (member-low a 64 high low h)

  -- .. and one from 64 on in the high one
  pub member-high-word : (a : ℕ) → 64 ≤ a → member (a - 64) high ≡ member a (words low high)
  member-high-word a h = sym (ap (λ (x : ℕ). member x (words low high)) (sym (past a h)) ∙ member-high (a - 64) 64 high low l)

  -- ---- an atom less

  -- an atom of the low word
  without-low : (a : ℕ) → a < 64 → words (without a low) high ≡ without a (words low high)
  unfolding without
  without-low a h = rw (← member-low-word a h) (go (member a low) refl)
    where
      go : (t : Bool) → member a low ≡ t → words (cond t (low - 2 ^ a) low) high ≡ cond t (words low high - 2 ^ a) (words low high)
      go true e = omega (arith, member_power a low (T_of_true e))
      go false e = refl

  -- an atom of the high word
  without-high : (a : ℕ) → 64 ≤ a → words low (without (a - 64) high) ≡ without a (words low high)
  unfolding without
  without-high a h = rw (← member-high-word a h) (go (member (a - 64) high) refl)
    where
      power : 2 ^ a ≡ 2 ^ 64 * 2 ^ (a - 64)
      power = ap (λ (k : ℕ). 2 ^ k) (sym (past a h)) ∙ pow-add 2 64 (a - 64)

      go : (t : Bool) → member (a - 64) high ≡ t → words low (cond t (high - 2 ^ (a - 64)) high) ≡ cond t (words low high - 2 ^ a) (words low high)
      go true e = omega (arith, power, member_power (a - 64) high (T_of_true e))
      go false e = refl

-- a word less an atom, as code clears a digit
cleared : (a w : ℕ) → a < 64 → w < 2 ^ 64 → bit_and w (2 ^ 64 - 1 - 2 ^ a) ≡ without a w
unfolding all_below
cleared a w h l = set_ext (λ b.
    member-and b w (2 ^ 64 - 1 - 2 ^ a)
    ∙ ap (λ (x : ℕ). member b w && member b x) (sym (without-member a (2 ^ 64 - 1) (member_full a 64 h)))
    ∙ ap (◌&&◌ (member b w)) (member-without b a (2 ^ 64 - 1))
    ∙ and_cong_right (member b w) (λ t. rw (true_of_T (member b (2 ^ 64 - 1)) (member_full b 64 (all_below_at 64 w b (lt→ltb w (2 ^ 64) l) t))))
    ∙ sym (member-without b a w))

-- ---- equal sets

module _ (low high low' high' : ℕ) (l : low < 2 ^ 64) (l' : low' < 2 ^ 64) where
  -- where the low words are the same, the high words decide
  pub eqb_high_word : low ≡ low' → eqb high high' ≡ eqb (words low high) (words low' high')
  eqb_high_word same = eqb_ext high high' (words low high) (words low' high') (λ e. omega arith) (λ e. omega arith)

  -- where they are not, the sets are not equal
  pub eqb_low_word : (low ≡ low' → ⊥) → eqb low low' ≡ eqb (words low high) (words low' high')
  eqb_low_word other = eqb_ext low low' (words low high) (words low' high') (λ e. absurd (other e)) (λ e. omega arith)

-- ---- the order of sets as numbers

module _ (low high low' high' : ℕ) (l : low < 2 ^ 64) (l' : low' < 2 ^ 64) where
  -- where the high words are the same, the low words decide
  pub ltb_low_word : high ≡ high' → ltb low low' ≡ ltb (words low high) (words low' high')
  ltb_low_word same = ltb_ext low low' (words low high) (words low' high') (λ h. omega arith) (λ h. omega arith)

  -- where they are not, the high words do
  pub ltb_high_word : (high ≡ high' → ⊥) → ltb high high' ≡ ltb (words low high) (words low' high')
  ltb_high_word other = ltb_ext high high' (words low high) (words low' high') (λ h. omega arith) above
    where
      above : words low high < words low' high' → high < high'
      above h = omega arith

-- ---- what the code's `==` and `<` on two masks answer

-- both words are equal exactly if the sets are
words_eq : (low high low' high' : ℕ) → low < 2 ^ 64 → low' < 2 ^ 64
    → (eqb high high' && eqb low low') ≡ eqb (words low high) (words low' high')
words_eq low high low' high' l l' = go (eqb high high') refl
  where
    go : (same : Bool) → eqb high high' ≡ same → (same && eqb low low') ≡ eqb (words low high) (words low' high')
    go true e =
        let same : high ≡ high' = eqb-true high high' e in
        eqb_ext low low' (words low high) (words low' high') (λ h. omega arith) (λ h. omega arith)
    go false e =
        let other : high ≡ high' → ⊥ = eqb-false high high' e in
        sym (ne_eqb (words low high) (words low' high') (λ h. other (omega arith)))

-- where a comparison of two numbers does not answer equal, what would be compared next does not matter ..
less_differ : (less : Bool) (next : Ordering) → is_some_and is_lt (partial_ordering_then (Some (cond less Less Greater)) (Some next)) ≡ less
less_differ true next = refl
less_differ false next = refl

-- .. and a comparison of two numbers answers less exactly if the test of the order does
less_last : (less equal : Bool) → is_some_and is_lt (Some (cond less Less (cond equal Equal Greater))) ≡ less
less_last true equal = refl
less_last false true = refl
less_last false false = refl

module _ (s t : Mask) (low : s.low < 2 ^ 64) (low' : t.low < 2 ^ 64) where
  -- the derived `==`, whichever word it compares first: they are equal exactly if they mean one set
  pub mask_eq : mask_equal.eq-value.it s t ≡ eqb (mask_means s) (mask_means t)
  unfolding mask_means
  mask_eq =
      let here = words_eq s.low s.high t.low t.high low low' in
      let turned = and_comm (eqb s.high t.high) (eqb s.low t.low) in
      cc

  -- the derived `<`: the one is less exactly if its set is, as a number
  pub mask_lt : partial_lt mask_order.partial_cmp-value.it s t ≡ ltb (mask_means s) (mask_means t)
  unfolding mask_means
  mask_lt = go (eqb s.high t.high) refl
    where
      go : (same : Bool) → eqb s.high t.high ≡ same → partial_lt mask_order.partial_cmp-value.it s t ≡ ltb (mask_means s) (mask_means t)
      go true e =
          let same : s.high ≡ t.high = eqb-true s.high t.high e in
          rw (le-ltb s.high t.high (omega arith), e) (less_last (ltb s.low t.low) (eqb s.low t.low) ∙ ltb_low_word s.low s.high t.low t.high low low' same)
      go false e =
          rw e (less_differ (ltb s.high t.high) (nat_cmp s.low t.low) ∙ ltb_high_word s.low s.high t.low t.high low low' (eqb-false s.high t.high e))

-- ---- a union

-- word by word
pub union-words : (low high low' high' : ℕ) → low < 2 ^ 64 → low' < 2 ^ 64
    → words (bit_or low low') (bit_or high high') ≡ union (words low high) (words low' high')
unfolding union
union-words low high low' high' h k = sym (or_block 64 high high' low low' h k)

-- ---- an atom more, if it is one

-- a number below 128 joins
pub with_atom-atom : (a s : ℕ) → a < most_atoms → with_atom a s ≡ with a s
unfolding with_atom
with_atom-atom a s l = rw (lt-ltb a most_atoms l)

-- one from 128 on does not
pub with_atom_past : (a s : ℕ) → most_atoms ≤ a → with_atom a s ≡ s
unfolding with_atom
with_atom_past a s h = rw (le-ltb a most_atoms h)

-- the set of the atoms among numbers, with one number more at the end
pub set_of-keep_snoc : (a : ℕ) (xs : List ℕ)
    → set_of (keep (λ x. ltb x most_atoms) (xs ++ (a ∷ []))) ≡ with_atom a (set_of (keep (λ x. ltb x most_atoms) xs))
unfolding with_atom
set_of-keep_snoc a xs = by (ltb a most_atoms) refl
  where
    atoms : List ℕ
    atoms = keep (λ x. ltb x most_atoms) xs

    by : (t : Bool) → ltb a most_atoms ≡ t → set_of (keep (λ x. ltb x most_atoms) (xs ++ (a ∷ []))) ≡ cond t (with a (set_of atoms)) (set_of atoms)
    by true e = ap set_of (keep_snoc_true _ xs a e) ∙ set_of_snoc a atoms
    by false e = ap set_of (keep_snoc_false _ xs a e)

-- ---- masks

-- no atom from 128 on is in a set
pub member_past : (m : Mask) → m.low < 2 ^ 64 → m.high < 2 ^ 64 → (a : ℕ) → 128 ≤ a → member a (mask_means m) ≡ false
member_past m low high a h =
    false_of_T (member a (mask_means m)) (λ t. let l : a < 128 = all_below_at most_atoms (mask_means m) a (mask_means-below m low high) t in omega arith)

-- numbers with no digit in which they differ are equal
xor-zero : (a b : ℕ) → eqb (bit_xor a b) 0 ≡ eqb a b
xor-zero a b =
    T_ext (eqb (bit_xor a b) 0) (eqb a b)
    (λ t. let none : bit_xor a b ≡ 0 = eqb→eq (bit_xor a b) 0 t in
    let same : a ≡ b = omega (arith, xor_add_and a b, and_le_l a b, and_le_r a b) in rw same (eqb_refl b))
    (λ t. rw (eqb→eq a b t, xor_self) tt)

-- the two may change places
eqb_comm : (a b : ℕ) → eqb a b ≡ eqb b a
eqb_comm a b = T_ext (eqb a b) (eqb b a) (λ t. rw (eqb→eq a b t) (eqb_refl b)) (λ t. rw (eqb→eq b a t) (eqb_refl a))

module _ (s t : Mask) (low : s.low < 2 ^ 64) (low' : t.low < 2 ^ 64) where
  both : bit_or s.low t.low < 2 ^ 64
  both = or_lt 64 s.low t.low low low'

  -- where the low word of s is in that of t, the high words decide
  pub subset-high-word : bit_or s.low t.low ≡ t.low → eqb (bit_or s.high t.high) t.high ≡ subset (mask_means s) (mask_means t)
  unfolding subset mask_means
  subset-high-word same =
      rw (← union-words s.low s.high t.low t.high low low') (eqb_high_word _ _ t.low t.high both low' same)

  -- where it is not, s is no subset of t
  pub subset-low-word : (bit_or s.low t.low ≡ t.low → ⊥) → eqb (bit_or s.low t.low) t.low ≡ subset (mask_means s) (mask_means t)
  unfolding subset mask_means
  subset-low-word other =
      rw (← union-words s.low s.high t.low t.high low low') (eqb_low_word _ _ t.low t.high both low' other)

  -- no digit of s is left beside those of t, in either word
  pub subset-words : eqb (bit_or (bit_xor (bit_or s.low t.low) t.low) (bit_xor (bit_or s.high t.high) t.high)) 0 ≡ subset (mask_means s) (mask_means t)
  subset-words =
      or-zero (bit_xor (bit_or s.low t.low) t.low) (bit_xor (bit_or s.high t.high) t.high)
      ∙ (λ i. xor-zero (bit_or s.low t.low) t.low i && (eqb_comm 0 (bit_xor (bit_or s.high t.high) t.high) ∙ xor-zero (bit_or s.high t.high) t.high) i)
      ∙ go (eqb (bit_or s.low t.low) t.low) refl
    where
      go : (p : Bool) → eqb (bit_or s.low t.low) t.low ≡ p → (p && eqb (bit_or s.high t.high) t.high) ≡ subset (mask_means s) (mask_means t)
      go true q = subset-high-word (eqb-true _ _ q)
      go false q = sym q ∙ subset-low-word (eqb-false _ _ q)

-- ---- sets that meet

module _ (s t : Mask) (low : s.low < 2 ^ 64) (high : s.high < 2 ^ 64) (low' : t.low < 2 ^ 64) where
  -- they meet exactly if the digits shared by the words are not all 0
  meets-words : meets (mask_means s) (mask_means t) ≡ not (eqb (words (bit_and s.low t.low) (bit_and s.high t.high)) 0)
  unfolding mask_means
  meets-words =
      meets-and (mask_means s) (mask_means t) (mask_means-below s low high)
      ∙ ap (λ (x : ℕ). not (eqb x 0)) (and_block 64 s.high t.high s.low t.low low low')

  -- where the low words share a digit, they meet
  pub meets-low-word : (bit_and s.low t.low ≡ 0 → ⊥) → not (eqb (bit_and s.low t.low) 0) ≡ meets (mask_means s) (mask_means t)
  meets-low-word some =
      let low'' = bit_and s.low t.low in
      let high'' = bit_and s.high t.high in
      rw meets-words (ap not (eqb_ext low'' 0 (words low'' high'') 0 (λ e. absurd (some e)) (λ e. omega arith)))

  -- where they share none, the high words decide
  pub meets-high-word : bit_and s.low t.low ≡ 0 → not (eqb (bit_and s.high t.high) 0) ≡ meets (mask_means s) (mask_means t)
  meets-high-word none =
      let low'' = bit_and s.low t.low in
      let high'' = bit_and s.high t.high in
      rw meets-words (ap not (eqb_ext high'' 0 (words low'' high'') 0 (λ e. omega arith) (λ e. omega arith)))

-- ---- an atom more, and an atom less

module _ (m : Mask) (low : m.low < 2 ^ 64) (a : ℕ) where
  -- an atom more, in the low word
  pub with-low-word : a < 64 → mask_means (record { low = bit_or m.low (1 * 2 ^ a % 2 ^ 64); high = m.high }) ≡ with_atom a (mask_means m)
  unfolding mask_means with
  with-low-word h =
      let digit : 2 ^ a ≡ words (2 ^ a) 0 = omega arith in
      rw (shifted a h, with_atom-atom a (mask_means m) (omega arith))
      (ap (words (bit_or m.low (2 ^ a))) (sym (or_zero_r m.high))
      ∙ union-words m.low m.high (2 ^ a) 0 low (pow-lt h)
      ∙ ap (union (mask_means m)) (sym digit))

  -- an atom more, in the high word
  pub with-high-word : 64 ≤ a → a < 128 → mask_means (record { low = m.low; high = bit_or m.high (1 * 2 ^ (a - 64) % 2 ^ 64) }) ≡ with_atom a (mask_means m)
  unfolding mask_means with
  with-high-word h k =
      let digit : 2 ^ a ≡ words 0 (2 ^ (a - 64)) = ap (λ (k : ℕ). 2 ^ k) (sym (past a h)) ∙ pow-add 2 64 (a - 64) ∙ omega arith in
      rw (shifted (a - 64) (omega arith), with_atom-atom a (mask_means m) k)
      (ap (λ (x : ℕ). words x (bit_or m.high (2 ^ (a - 64)))) (sym (or_zero_r m.low))
      ∙ union-words m.low m.high 0 (2 ^ (a - 64)) low (pow_pos 64)
      ∙ ap (union (mask_means m)) (sym digit))

  -- an atom less, in the low word
  pub without-low-word : a < 64 → mask_means (record { low = bit_and m.low (2 ^ 64 - 1 - 1 * 2 ^ a % 2 ^ 64); high = m.high }) ≡ without a (mask_means m)
  unfolding mask_means
  without-low-word h = rw (shifted a h, cleared a m.low h low) (without-low m.low m.high low a h)

  -- an atom less, in the high word
  pub without-high-word : 64 ≤ a → a < 128 → m.high < 2 ^ 64
      → mask_means (record { low = m.low; high = bit_and m.high (2 ^ 64 - 1 - 1 * 2 ^ (a - 64) % 2 ^ 64) }) ≡ without a (mask_means m)
  unfolding mask_means
  without-high-word h k high =
      rw (shifted (a - 64) (omega arith), cleared (a - 64) m.high (omega arith) high) (without-high m.low m.high low a h)
