-- Sets of atoms and counts of their digits: a set has as many atoms as its number has ones, its highest atom is where its highest one stands, and
-- the lowest atom is where the zeros at its low end stop. Assumes nothing.
use Prim.Native.Nat.{ℕ, zero, suc, ◌+◌, ◌/◌, ◌%◌, ◌^◌, ◌≤◌, ◌<◌}
use native.Mathlib.Nat.{not-suc-le-zero, pow-suc}
use native.Mathlib.Omega.{arith}
use mathlib.Core.Path.{◌≡◌, refl, sym, ap, ◌∙◌, subst}
use mathlib.Core.Bool.{Bool, true, false, cond}
use mathlib.Core.List.{◌∷◌}
use lib.Count.{ones, ones_step, under, count_trailing_zeros}
use lib.Dec.{T, eqb, lt→ltb}
use lib.Pow.{pow_pos}
use lib.ListN.{length}
use Rattle.sets.specs.Lists.{keep, numbers_from, below}
use Rattle.sets.specs.Sets.{most_atoms, member, all_below, members, size, highest}
use Rattle.sets.proofs.Laws.Sets.Digits.{member-zero, member-suc, all_below_at}
use Rattle.sets.proofs.Laws.Sets.Highest.{highest-most, highest-member}

-- ---- the size

-- the atoms of s from k + 1 on are as many as those of its half from k on
size_half : (s k n : ℕ) → length (keep (λ a. member a s) (numbers_from (suc k) n)) ≡ length (keep (λ a. member a (s / 2)) (numbers_from k n))
unfolding keep numbers_from
size_half s k zero = refl
size_half s k (suc n) = rw (member-suc k s) (go (member k (s / 2)) (size_half s (suc k) n))
  where
    go : (t : Bool) → length (keep (λ a. member a s) (numbers_from (suc (suc k)) n)) ≡ length (keep (λ a. member a (s / 2)) (numbers_from (suc k) n))
        → length (cond t (suc k ∷ keep (λ a. member a s) (numbers_from (suc (suc k)) n)) (keep (λ a. member a s) (numbers_from (suc (suc k)) n)))
        ≡ length (cond t (k ∷ keep (λ a. member a (s / 2)) (numbers_from (suc k) n)) (keep (λ a. member a (s / 2)) (numbers_from (suc k) n)))
    go true e = ap suc e
    go false e = e

-- the atoms below n of a set of such atoms are as many as its ones
size_ones_below : (n s : ℕ) → s < 2 ^ n → length (keep (λ a. member a s) (numbers_from 0 n)) ≡ ones s
unfolding keep numbers_from ones
size_ones_below zero s l = let e : s ≡ 0 = omega arith in ap ones (sym e)
size_ones_below (suc n) s l =
    let half : s / 2 < 2 ^ n = omega (arith, pow-suc 2 n) in
    rw (member-zero s) (go (s % 2) refl (size_half s 0 n ∙ size_ones_below n (s / 2) half)) ∙ sym (ones_step s)
  where
    go : (d : ℕ) → s % 2 ≡ d → length (keep (λ a. member a s) (numbers_from 1 n)) ≡ ones (s / 2)
        → length (cond (eqb d 1) (0 ∷ keep (λ a. member a s) (numbers_from 1 n)) (keep (λ a. member a s) (numbers_from 1 n))) ≡ d + ones (s / 2)
    go zero e h = h ∙ omega arith
    go (suc zero) e h = ap suc h ∙ omega arith
    go (suc (suc d)) e h = absurd (omega arith)

-- a set has as many atoms as its number has ones
pub size_ones : (s : ℕ) → s < 2 ^ most_atoms → size s ≡ ones s
unfolding size members below
size_ones s l = size_ones_below most_atoms s l

-- ---- the highest atom

-- a number from 2^j on and below 2^(j + 1) has j
member-top : (j s : ℕ) → 2 ^ j ≤ s → s < 2 ^ suc j → T (member j s)
member-top zero s l h = let e : s % 2 ≡ 1 = omega arith in subst T (sym (member-zero s ∙ ap (λ (x : ℕ). eqb x 1) e)) tt
member-top (suc j) s l h =
    subst T (sym (member-suc j s)) (member-top j (s / 2) (omega (arith, pow-suc 2 j)) (omega (arith, pow-suc 2 j, pow-suc 2 (suc j))))

-- .. and that is its highest atom
pub highest-top : (j s : ℕ) → j < most_atoms → 2 ^ j ≤ s → s < 2 ^ suc j → s < 2 ^ most_atoms → highest s ≡ j
unfolding all_below
highest-top j s m l h k =
    let all : T (all_below most_atoms s) = lt→ltb s (2 ^ most_atoms) k in
    let most : j ≤ highest s = highest-most s j all (member-top j s l h) in
    let least : highest s < suc j = all_below_at (suc j) s (highest s) (lt→ltb s (2 ^ suc j) h) (highest-member s all (λ e. omega (arith, pow_pos j))) in
    omega arith

-- ---- the lowest atom

-- a is the lowest atom of s
pub record IsLowest (a s : ℕ) : Type 0 where
  pub has : T (member a s)
  pub none_below : (b : ℕ) → b < a → member b s ≡ false

-- the lowest atom of a set that is not empty is as high as the zeros at its low end are many
pub trailing_lowest : (k s : ℕ) → s < 2 ^ k → (s ≡ 0 → ⊥) → (count_trailing_zeros k s < k) × IsLowest (count_trailing_zeros k s) s
unfolding count_trailing_zeros
trailing_lowest zero s l some = absurd (some (omega arith))
trailing_lowest (suc k) s l some = go (s % 2) refl (trailing_lowest k (s / 2) (omega (arith, pow-suc 2 k)))
  where
    t : ℕ
    t = count_trailing_zeros k (s / 2)

    lowest : (d : ℕ) → s % 2 ≡ d → member 0 s ≡ eqb d 1
    lowest d e = member-zero s ∙ ap (λ (x : ℕ). eqb x 1) e

    higher : s % 2 ≡ 0 → ((b : ℕ) → b < t → member b (s / 2) ≡ false) → (b : ℕ) → b < suc t → member b s ≡ false
    higher e h zero m = lowest 0 e
    higher e h (suc b) m = member-suc b s ∙ h b (omega arith)

    go : (d : ℕ) → s % 2 ≡ d → ((s / 2 ≡ 0 → ⊥) → (t < k) × IsLowest t (s / 2)) → (under d t < suc k) × IsLowest (under d t) s
    go zero e rest =
        let (less, low) = rest (λ z. some (omega arith)) in
        (omega arith, record { has = subst T (sym (member-suc t s)) low.has; none_below = higher e low.none_below })
    go (suc zero) e rest = (omega arith, record { has = subst T (sym (lowest 1 e)) tt; none_below = λ b m. absurd (not-suc-le-zero m) })
    go (suc (suc d)) e rest = absurd (omega arith)
