-- The size, the highest atom, the lowest one and the order of sets in two words, from counts of the words' digits. Assumes nothing.
use Prim.Native.Nat.{ℕ, suc, ◌+◌, ◌-◌, ◌^◌, ◌≤◌, ◌<◌}
use native.Mathlib.Nat.{mul-le-mul_right, le_trans, suc-add}
use native.Mathlib.Omega.{arith}
use native.Mathlib.Decide.{dec_lt, ℕ_discrete}
use mathlib.Core.Path.{◌≡◌, sym, ap, ◌∙◌, subst}
use mathlib.Core.Bool.{false}
use mathlib.Core.List.{[], ◌∷◌}
use lib.Arith.{digits_lt}
use lib.Bits.{bit_xor, xor_block, xor_self}
use lib.Count.{count_leading_zeros, leading_top, ones, ones_cat, count_trailing_zeros}
use lib.Dec.{T}
use lib.Pow.{pow-add, pow_pos}
use Rattle.sets.specs.Dictionary.{lowest_first}
use Rattle.sets.specs.Masks.{mask_means}
use Rattle.sets.specs.Sets.{member, without, members, highest, size, words}
use Rattle.sets.specs.declared.mask.Mask.{Mask}
use Rattle.sets.proofs.Laws.Dictionary.{difference_lowest, lowest_first_at, lowest_first-same}
use Rattle.sets.proofs.Laws.Masks.{mask_means_less}
use Rattle.sets.proofs.Laws.Sets.Counts.{IsLowest, size_ones, highest-top, trailing_lowest}
use Rattle.sets.proofs.Laws.Sets.Digits.{member_empty, member-low, member-high}
use Rattle.sets.proofs.Laws.Sets.Highest.{highest_empty}
use Rattle.sets.proofs.Laws.Sets.Members.{members_empty, members-lowest}

-- a set with nothing in the high word is its low word
low_alone : (m : Mask) → m.high ≡ 0 → mask_means m ≡ m.low
unfolding mask_means
low_alone m none = omega arith

module _ (m : Mask) (low : m.low < 2 ^ 64) (high : m.high < 2 ^ 64) where
  -- ---- the size

  -- the ones of both words
  pub size-words : ones m.low + ones m.high ≡ size (mask_means m)
  unfolding mask_means
  size-words = omega (arith, ones_cat 64 m.high m.low low, size_ones (mask_means m) (mask_means_less m low high))

  -- ---- the highest atom

  -- where the high word has one
  pub highest-high-word : 0 < m.high → 127 - count_leading_zeros 64 m.high ≡ highest (mask_means m)
  unfolding mask_means
  highest-high-word some =
      let (j, zeros, least, most) = leading_top 64 m.high some high in
      let top : 2 ^ (j + 64) ≤ mask_means m = rw (pow-add 2 j 64) (le_trans (mul-le-mul_right (2 ^ 64) least) (omega arith)) in
      let next : mask_means m < 2 ^ suc (j + 64) = rw (← suc-add j 64, pow-add 2 (suc j) 64) (digits_lt most low) in
      let there : highest (mask_means m) ≡ j + 64 = highest-top (j + 64) (mask_means m) (omega arith) top next (mask_means_less m low high) in
      omega arith

  -- where only the low word has one
  pub highest-low-word : m.high ≡ 0 → 0 < m.low → 63 - count_leading_zeros 64 m.low ≡ highest (mask_means m)
  unfolding mask_means
  highest-low-word none some =
      let (j, zeros, least, most) = leading_top 64 m.low some low in
      let same : mask_means m ≡ m.low = low_alone m none in
      let there : highest (mask_means m) ≡ j =
      highest-top j (mask_means m) (omega arith) (rw same least) (rw same most) (mask_means_less m low high) in
      omega arith

-- where neither word has one, there is no atom
pub members_no_word : (m : Mask) → m.high ≡ 0 → m.low ≡ 0 → members (mask_means m) ≡ []
members_no_word m none empty = rw (low_alone m none, empty) members_empty

-- where neither has
pub highest_no_word : (m : Mask) → m.high ≡ 0 → m.low ≡ 0 → 0 ≡ highest (mask_means m)
highest_no_word m none empty = rw (low_alone m none, empty) (sym highest_empty)

-- ---- the lowest atom

-- the lowest atom of the low word is the set's
lowest_low : (a low high : ℕ) → a < 64 → IsLowest a low → IsLowest a (words low high)
lowest_low a low high l h = record {
  has = subst T (sym (member-low a 64 high low l)) h.has;
  none_below = λ b m. member-low b 64 high low (omega arith) ∙ h.none_below b m;
}

-- the lowest atom of the high word is the set's where the low word has none
lowest_high : (a high : ℕ) → IsLowest a high → IsLowest (64 + a) (words 0 high)
lowest_high a high h = record {
  has = subst T (sym (member-high a 64 high 0 (pow_pos 64))) h.has;
  none_below = λ b m. below b m (dec_lt b 64);
}
  where
    below : (b : ℕ) → b < 64 + a → Dec (b < 64) → member b (words 0 high) ≡ false
    below b m (yes l) = member-low b 64 high 0 l ∙ member_empty b
    below b m (no l) =
        let past : b ≡ 64 + (b - 64) = omega arith in
        ap (λ (x : ℕ). member x (words 0 high)) past ∙ member-high (b - 64) 64 high 0 (pow_pos 64) ∙ h.none_below (b - 64) (omega arith)

module _ (m : Mask) where
  -- where the low word has one
  pub lowest-low-word : m.low < 2 ^ 64 → (m.low ≡ 0 → ⊥) →
      let a = count_trailing_zeros 64 m.low in
      members (mask_means m) ≡ a ∷ members (without a (mask_means m))
  unfolding mask_means
  lowest-low-word low some =
      let (less, lowest) = trailing_lowest 64 m.low low some in
      members-lowest (mask_means m) _ (lowest_low _ m.low m.high less lowest) (omega arith)

  -- where only the high word has one
  pub lowest-high-word : m.low ≡ 0 → m.high < 2 ^ 64 → (m.high ≡ 0 → ⊥) →
      let a = 64 + count_trailing_zeros 64 m.high in
      members (mask_means m) ≡ a ∷ members (without a (mask_means m))
  unfolding mask_means
  lowest-high-word none high some =
      let (less, lowest) = trailing_lowest 64 m.high high some in
      members-lowest (mask_means m) _ (rw none (lowest_high _ m.high lowest)) (omega arith)

-- ---- the lowest difference

module _ (low high low' high' : ℕ) (l : low < 2 ^ 64) (l' : low' < 2 ^ 64) where
  -- low words that differ decide
  pub lowest_first-low : (low ≡ low' → ⊥) → lowest_first low low' ≡ lowest_first (words low high) (words low' high')
  lowest_first-low other =
      let a = count_trailing_zeros 64 (bit_xor low low') in
      let (less, lowest) = difference_lowest 64 low low' l l' other in
      let whole : IsLowest a (bit_xor (words low high) (words low' high')) = rw (xor_block 64 high high' low low' l l') (lowest_low a _ _ less lowest) in
      lowest_first_at low low' a lowest (omega arith) ∙ sym (member-low a 64 high low less)
      ∙ sym (lowest_first_at (words low high) (words low' high') a whole (omega arith))

  -- where they are the same, the high words do
  pub lowest_first-high : low ≡ low' → high < 2 ^ 64 → high' < 2 ^ 64 → lowest_first high high' ≡ lowest_first (words low high) (words low' high')
  lowest_first-high same h h' = go (ℕ_discrete high high')
    where
      go : Dec (high ≡ high') → lowest_first high high' ≡ lowest_first (words low high) (words low' high')
      go (yes e) = rw (e, same) (lowest_first-same high' ∙ sym (lowest_first-same (words low' high')))
      go (no other) =
          let a = count_trailing_zeros 64 (bit_xor high high') in
          let (less, lowest) = difference_lowest 64 high high' h h' other in
          let none : bit_xor low low' ≡ 0 = ap (bit_xor low) (sym same) ∙ xor_self low in
          let whole : IsLowest (64 + a) (bit_xor (words low high) (words low' high')) =
          rw (xor_block 64 high high' low low' l l', none) (lowest_high a _ lowest) in
          lowest_first_at high high' a lowest (omega arith) ∙ sym (member-high a 64 high low l)
          ∙ sym (lowest_first_at (words low high) (words low' high') (64 + a) whole (omega arith))
