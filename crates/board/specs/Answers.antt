-- What an entry point answers: document 01, "What the scope says no to". "A refusal gives its number from document 01, and for a file its
-- place" (demand 1). Assumes nothing.
use Rattle.std.specs.Prelude.{ℕ, Result, Ok, Err}
use Rattle.board.specs.declared.Refusal.{Refusal}
use Rattle.board.specs.declared.Refusal.TheVariants as refusal
use Rattle.board.specs.declared.RefusedAt.{RefusedAt}

-- an answer about a file: a value, or a refusal's number and place
pub data FileAnswer (A : Type 0) : Type 0 where
  accepted : A → FileAnswer A
  refused_at : ℕ → ℕ → FileAnswer A

-- any other answer: a value, or a refusal's number alone
pub data Answer (A : Type 0) : Type 0 where
  granted : A → Answer A
  refused : ℕ → Answer A

-- ---- how the code holds an answer

-- the rows of the table, each value of the code's enum `Refusal` by its word: its number
abbrev pub refusal_number : Refusal → ℕ
refusal_number refusal.CutOff = 1
refusal_number refusal.Kind = 2
refusal_number refusal.Misplaced = 3
refusal_number refusal.Atom = 4
refusal_number refusal.Declaration = 5
refusal_number refusal.Hypothesis = 6
refusal_number refusal.Weight = 7
refusal_number refusal.Product = 8
refusal_number refusal.Body = 9
refusal_number refusal.Head = 10
refusal_number refusal.Level = 11
refusal_number refusal.Rules = 12
refusal_number refusal.Table = 20
refusal_number refusal.Length = 21
refusal_number refusal.AskedAtom = 22
refusal_number refusal.AskedOrder = 23
refusal_number refusal.BoardState = 25
refusal_number refusal.StoreFull = 31
refusal_number refusal.Overlap = 32
refusal_number refusal.ListFull = 33
refusal_number refusal.Search = 34
refusal_number refusal.Line = 36

-- What each value of the code's `Result` means that has a refusal in it: what was granted, or the refusal's number
abbrev pub answer_means : {A : Type 0} → Result A Refusal → Answer A
answer_means (Ok x) = granted x
answer_means (Err r) = refused (refusal_number r)

-- .. and of one about a file: what was accepted, or the refusal's number and place
abbrev pub file_answer_means : {A : Type 0} → Result A RefusedAt → FileAnswer A
file_answer_means (Ok x) = accepted x
file_answer_means (Err r) = refused_at (refusal_number r.refusal) r.place
