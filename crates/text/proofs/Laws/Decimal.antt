-- Numbers in decimal: a digit at a time, and how many digits there are. Assumes nothing.
use Prim.Native.Nat.{ℕ, zero, suc, ◌+◌, ◌/◌, ◌%◌, ◌^◌, ◌≤◌, ◌<◌}
use native.Mathlib.Nat.{pow-suc}
use native.Mathlib.Omega.{arith}
use mathlib.Core.Path.{◌≡◌, refl, ap, ◌∙◌}
use mathlib.Core.Bool.{Bool, true, false}
use mathlib.Core.List.{List, [], ◌∷◌, ◌++◌}
use lib.Dec.{ltb}
use lib.ListN.{length, length-append}
use borrow.Author.Tests.{ltb-true, ltb-false, lt-ltb, le-ltb}
use Rattle.search.specs.Listing.{decimal_of, decimal}
use Rattle.text.proofs.Laws.Putting.{put_both}

-- the digits of a number over at most d + 1 of them, by whether it has one
digits : ℕ → ℕ → Bool → List ℕ
digits d n t = elim t [ true ↦ (48 + n) ∷ [] | false ↦ decimal_of d (n / 10) ++ ((48 + n % 10) ∷ []) ]

-- as many digits as are asked for, if only they are enough
decimal_of_enough : (d e n : ℕ) → n < d → n < e → decimal_of d n ≡ decimal_of e n
unfolding decimal_of digits
decimal_of_enough zero e n l m = absurd (omega arith)
decimal_of_enough (suc d) zero n l m = absurd (omega arith)
decimal_of_enough (suc d) (suc e) n l m = go (λ i. decimal_of_enough d e (n / 10) (omega arith) (omega arith)) (ltb n 10) refl
  where
    go : (n / 10 < n → decimal_of d (n / 10) ≡ decimal_of e (n / 10)) → (t : Bool) → ltb n 10 ≡ t → digits d n t ≡ digits e n t
    go same true q = refl
    go same false q = ap (λ (tenth : List ℕ). tenth ++ ((48 + n % 10) ∷ [])) (same (omega (arith, ltb-false n 10 q)))

-- a number of one digit
pub decimal_small : (n : ℕ) → n < 10 → decimal n ≡ (48 + n) ∷ []
unfolding decimal decimal_of digits
decimal_small n l = ap (digits n n) (lt-ltb n 10 l)

-- any other: the digits of a tenth of it, and the last
pub decimal_large : (n : ℕ) → 10 ≤ n → decimal n ≡ decimal (n / 10) ++ ((48 + n % 10) ∷ [])
unfolding decimal decimal_of digits
decimal_large n l =
    ap (digits n n) (le-ltb n 10 l)
    ∙ ap (λ (tenth : List ℕ). tenth ++ ((48 + n % 10) ∷ [])) (decimal_of_enough n (suc (n / 10)) (n / 10) (omega arith) (omega arith))

-- what the check needs where a number is put: these, and that pieces are put one after another
pub ruleset by_digits = (decimal_small, decimal_large, put_both, length-append)

-- any other number has one digit more than a tenth of it
pub decimal-more : (n : ℕ) → 10 ≤ n → length (decimal n) ≡ length (decimal (n / 10)) + 1
decimal-more n l = rw (decimal_large n l, length-append) refl

-- a number below a power of ten has at most as many digits
pub decimal-length : (k n : ℕ) → n < 10 ^ suc k → length (decimal n) ≤ suc k
decimal-length zero n l = omega (arith, ap length (decimal_small n l))
decimal-length (suc k) n l = go (decimal-length k (n / 10)) (ltb n 10) refl
  where
    go : (n / 10 < 10 ^ suc k → length (decimal (n / 10)) ≤ suc k) → (t : Bool) → ltb n 10 ≡ t → length (decimal n) ≤ suc (suc k)
    go tenth true q = omega (arith, ap length (decimal_small n (ltb-true n 10 q)))
    go tenth false q = omega (arith, decimal-more n (ltb-false n 10 q), tenth (omega (arith, l, pow-suc 10 (suc k))))
