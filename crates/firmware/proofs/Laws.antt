-- What is handed on under C names, from what the entry points of the crates below promise. Assumes nothing.
pub mod Endings
pub mod Numbers
pub mod Sequence
use Rattle.std.specs.Prelude.{Result, Ok, Err, IsOkAnd, MatchResult}
use Prim.Native.Nat.{ℕ}
use mathlib.Core.Path.{◌≡◌, refl, sym, ap, ◌∙◌}
use mathlib.Core.Bool.{Bool, true, false}
use mir.Val.{bool_byte}
use Rattle.board.specs.Answers.{FileAnswer, accepted, refused_at, Answer, granted, refused, answer_means}
use Rattle.board.specs.Board.{Board}
use Rattle.board.specs.EntryPoints.{table_answer}
use Rattle.board.specs.Table.{table_in, zero_table}
use Rattle.board.specs.declared.Refusal.{Refusal}
use Rattle.board.specs.declared.Table.{Table}
use Rattle.board.proofs.Promise.{accepted-of, refused_at-of}
use Rattle.search.specs.EntryPoints.{stored_answer, opened_search}
use Rattle.search.specs.Search.{Search}
use Rattle.search.specs.Store.{zero_stored}
use Rattle.search.specs.declared.Search.{Search as Stored}
use Rattle.search.proofs.Laws.EntryPoints.{granted-of, refused-of}
use Rattle.firmware.specs.Answers.{file_number, file_place, load_answer, number_of, open_answer, granted_number, held_number, holds_answer}
use Rattle.firmware.specs.declared.HoldsAnswer.{HoldsAnswer}
use Rattle.firmware.specs.declared.LoadAnswer.{LoadAnswer}
use Rattle.firmware.specs.declared.OpenAnswer.{OpenAnswer}

-- what is handed on of a load: the table, or the refusal's number and place, and the zero table
module _ (answer : FileAnswer Board) where
  pub loads-accepted : (t : Table) → accepted t ≡ table_answer answer → Path LoadAnswer (record { number = 0; place = 0; table = t }) (load_answer answer)
  unfolding load_answer file_number file_place table_in
  loads-accepted t e =
      let (b, was, own) = accepted-of answer t e in
      ap (λ (x : Table). record { number = 0; place = 0; table = x }) own ∙ ap load_answer (sym was)

  pub loads-refused : (number place : ℕ) → refused_at number place ≡ table_answer answer
      → Path LoadAnswer (record { number = number; place = place; table = zero_table }) (load_answer answer)
  unfolding load_answer file_number file_place table_in
  loads-refused number place e = rw (refused_at-of answer number place e) refl

-- what is handed on of an opening: the search, or the refusal's number, and the zero search
module _ (answer : Answer Search) where
  pub opens-granted : (s : Stored) → granted s ≡ stored_answer answer → Path OpenAnswer (record { number = 0; search = s }) (open_answer answer)
  unfolding open_answer number_of opened_search
  opens-granted s e =
      let (r, was, own) = granted-of answer s e in
      ap (λ (x : Stored). record { number = 0; search = x }) own ∙ ap open_answer (sym was)

  pub opens-refused : (number : ℕ) → refused number ≡ stored_answer answer → Path OpenAnswer (record { number = number; search = zero_stored }) (open_answer answer)
  unfolding open_answer number_of opened_search
  opens-refused number e = rw (refused-of answer number e) refl

-- what is handed on of a yes-or-no: 1 or 0, or the refusal's number
module _ (Made : Bool → ℕ → Type 0) (h : (b : Bool) (n : ℕ) → Made b n → n ≡ bool_byte b) where
  pub held : (r : Result Bool Refusal) (made : Result ℕ Refusal) → MatchResult r (λ b. IsOkAnd made (Made b)) (λ e. made ≡ Err e)
      → Path HoldsAnswer (record { number = number_of (answer_means made); holds = granted_number (answer_means made) }) (holds_answer (answer_means r))
  unfolding holds_answer number_of held_number granted_number
  held (Ok true) (Ok n) o = rw (h true n o)
  held (Ok false) (Ok n) o = rw (h false n o)
  held (Ok b) (Err e) o = absurd o
  held (Err e) made o = rw o
