-- What a check of a record answered, by the number that its contract speaks of: 0 stands for no refusal. Assumes nothing.
use mathlib.Core.Path.{◌≡◌, refl, sym}
use mathlib.Core.Bool.{true}
use Prim.Native.Nat.{ℕ}
use native.Mathlib.Omega.{arith}
use lib.Dec.{eqb}
use borrow.Author.Tests.{ne_eqb}
use Rattle.std.specs.Prelude.{Result, Ok, Err}
use Rattle.std.specs.Result.{MatchResult, is_ok, is_err}
use Rattle.std.proofs.lemmas.Grind.{common_steps}
use Rattle.board.specs.Answers.{refusal_number}
use Rattle.board.specs.declared.Refusal.{Refusal}
use Rattle.board.specs.declared.RefusedAt.{RefusedAt}
use Rattle.files.specs.Private.Taking.{failed_number}

-- no refusal has the number 0
pub numbered : (r : Refusal) → refusal_number r ≡ 0 → ⊥
numbered r = grind (arith, common_steps)

-- a check that failed has a refusal's number
pub failed-err : (r : Result Unit Refusal) → true ≡ is_err r → failed_number r ≡ 0 → ⊥
failed-err (Ok x) e z = cc
failed-err (Err r) e z = numbered r z

-- .. and one that passed has 0
pub failed-ok : (r : Result Unit Refusal) → is_ok r ≡ true → failed_number r ≡ 0
failed-ok (Ok x) e = refl
failed-ok (Err r) e = cc

-- so it passed exactly if that is 0
pub passed-zero : (r : Result Unit Refusal) → is_ok r ≡ eqb (failed_number r) 0
passed-zero (Ok x) = refl
passed-zero (Err r) = sym (ne_eqb (refusal_number r) 0 (numbered r))

-- where its refusal goes on with the place of the record, as `map_err` does it, that is its number
pub failed_on : (r : Result Unit Refusal) (at : ℕ) (d : RefusedAt) (Made : Refusal → Type 0)
    → ((e : Refusal) → Made e → d ≡ record { refusal = e; place = at }) → MatchResult r (λ x. Err d ≡ Ok x) Made
    → (failed_number r ≡ refusal_number d.refusal) × (d.place ≡ at)
failed_on (Ok x) at d Made made m = cc
failed_on (Err e) at d Made made m = rw (made e m) (refl, refl)
