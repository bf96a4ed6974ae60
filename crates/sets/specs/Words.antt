-- Types of numbers, for code that serves numbers of any width. Assumes nothing.
use Rattle.std.specs.Prelude.{ℕ, ◌≡◌, ⊤, Bool, List, map, nat_eq, bit_or, refl}
use Rattle.std.proofs.Common.{sym}
use Rattle.std.proofs.lemmas.List.{map-id}

-- What a type's operators do is what they do with the numbers that its values are: its default is 0, `==` compares the numbers, and `|=`, which may always
-- be asked for, joins their digits.
pub record WordLaws
    {A : Type 0}
    (number : A → ℕ)
    (numbers : List A → List ℕ)
    (is_default : A → Type 0)
    (eq : A → A → Bool)
    (can_join : A → A → Type 0)
    (joins : A → A → A → Type 0)
    : Type 0 where
  pub each : (xs : List A) → numbers xs ≡ map number xs
  pub none : (x : A) → is_default x → number x ≡ 0
  pub same : (x y : A) → eq x y ≡ nat_eq (number x) (number y)
  pub can : (x y : A) → can_join x y
  pub joined : (x y z : A) → joins x y z → number z ≡ bit_or (number x) (number y)

-- the unsigned types are such types, each value its own number
pub number_laws : WordLaws {A = ℕ} (λ n. n) (λ ns. ns) (λ n. n ≡ 0) nat_eq (λ m n. ⊤) (λ m n k. k ≡ bit_or m n)
number_laws = record { each = λ ns. sym (map-id ns); none = λ n e. e; same = λ m n. refl; can = λ m n. tt; joined = λ m n k e. e }
