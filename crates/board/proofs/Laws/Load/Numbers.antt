-- No refusal of a file has the number 0, so where a number stands for an answer, 0 is acceptance. Assumes nothing.
use Prim.Native.Nat.{ℕ, zero, suc, ◌≤◌}
use native.Mathlib.Omega.{arith}
use mathlib.Core.Path.{◌≡◌, refl}
use mathlib.Core.Bool.{Bool, true, false, cond}
use mathlib.Core.List.{List}
use lib.Dec.{eqb, leb, ltb}
use lib.ListN.{length, get_or}
use borrow.Author.Tests.{eqb-false}
use Rattle.board.specs.Answers.{FileAnswer, accepted, refused_at}
use Rattle.board.specs.Board.{Board}
use Rattle.board.specs.File.{Found, known_kind, next_place, read_record}
use Rattle.board.specs.Load.{no_board, misplaced_at, first_failing, field_checks, taking, is_finish, at_the_end, passing, checked, load_from, load}

-- a refusal has a number above 0
abbrev Numbered : {A : Type 0} → FileAnswer A → Type 0
Numbered answer = (number place : ℕ) → answer ≡ refused_at number place → 1 ≤ number

numbered-accepted : {A : Type 0} (x : A) → Numbered (accepted x)
numbered-accepted x number place e = absurd (let z : ◌≡◌ {A = ℕ} 0 1 = cc in omega arith)

numbered-refused : {A : Type 0} (number place : ℕ) → 1 ≤ number → Numbered {A = A} (refused_at number place)
numbered-refused known place h number p e = let same : known ≡ number = cc in omega arith

numbered-passing : {A B : Type 0} (answer : FileAnswer A) (next : A → FileAnswer B) → Numbered answer → ((x : A) → Numbered (next x))
    → Numbered (passing answer next)
unfolding passing
numbered-passing (accepted x) next f g = g x
numbered-passing (refused_at number place) next f g = numbered-refused number place (f number place refl)

module _ (file : List ℕ) where
  numbered-read : (at : ℕ) → Numbered (read_record file at)
  unfolding read_record
  numbered-read at = let kind = get_or file at 0 in go _ (leb (length file) at) (known_kind kind) (leb (next_place kind at) (length file))
    where
      go : (r : Found) (p q t : Bool)
          → Numbered (cond p (refused_at 1 (length file)) (cond q (cond t (accepted r) (refused_at 1 at)) (refused_at 2 at)))
      go r true q t = numbered-refused 1 (length file) (omega arith)
      go r false true true = numbered-accepted r
      go r false true false = numbered-refused 1 at (omega arith)
      go r false false t = numbered-refused 2 at (omega arith)

  numbered-checked : (at : ℕ) (b : Board) → Numbered (checked file at b)
  unfolding checked
  numbered-checked at b = go (misplaced_at file at b)
    where
      fields : (r : Found) (number : ℕ) (t : Bool) → eqb number 0 ≡ t → Numbered (cond t (accepted r) (refused_at number at))
      fields r number true q = numbered-accepted r
      fields r number false q = numbered-refused number at (omega (arith, eqb-false number 0 q))

      go : (t : Bool) → Numbered (cond t (refused_at 3 at) (passing (read_record file at) (λ r.
          let number = first_failing (field_checks b r.found) in cond (eqb number 0) (accepted r) (refused_at number at))))
      go true = numbered-refused 3 at (omega arith)
      go false = numbered-passing (read_record file at) _ (numbered-read at) (λ r. fields r (first_failing (field_checks b r.found)) _ refl)

  numbered_from : (n at : ℕ) (b : Board) → Numbered (load_from n file at b)
  unfolding load_from at_the_end
  numbered_from zero at b = numbered-refused 1 (length file) (omega arith)
  numbered_from (suc n) at b =
      numbered-passing (checked file at b) _ (numbered-checked at b)
      (λ r. go r (is_finish r.found) (ltb r.next (length file)) (numbered_from n r.next (taking b r.found)))
    where
      go : (r : Found) (t u : Bool) → Numbered (load_from n file r.next (taking b r.found))
          → Numbered (cond t (cond u (refused_at 3 r.next) (accepted b)) (load_from n file r.next (taking b r.found)))
      go r true true later = numbered-refused 3 r.next (omega arith)
      go r true false later = numbered-accepted b
      go r false u later = later

  -- a refusal of a file has a number above 0
  pub load-number : (number place : ℕ) → load file ≡ refused_at number place → 1 ≤ number
  unfolding load
  load-number = numbered_from (suc (length file)) 0 no_board
