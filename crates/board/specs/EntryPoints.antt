-- The entry points of `files` and `holding`, as the contracts cite them: what each gives, and for each answer that is an enum of the code the paper's
-- number and values of its cases. Document 01: "A refused yes-or-no or share returns its number alone." Assumes nothing.
use Rattle.std.specs.Prelude.{ℕ, ◌≡◌, Bool, not, cond, List, leb, Result, Ok, Err}
use Rattle.board.specs.Answers.{FileAnswer, accepted, refused_at, Answer, granted, refused, refusal_number, file_answer_means}
use Rattle.board.specs.Board.{Board, declarations, is_state_of}
use Rattle.board.specs.Holds.{holds, in_state}
use Rattle.board.specs.File as file
use Rattle.board.specs.Table.{board_of, table_of, is_table}
use Rattle.board.specs.declared.Table.{Table}
use Rattle.board.specs.declared.Record.{Record}
use Rattle.board.specs.declared.Record.TheVariants.{Count, Hypothesis, Rule, End}
use Rattle.board.specs.declared.Found.{Found}
use Rattle.board.specs.declared.RefusedAt.{RefusedAt}

-- ---- reading one record

-- What each value of the code's enum `Record` means: the kinds of "The board file"
unfoldable pub record_means : Record → file.Record
record_means (Count n) = file.count n
record_means (Hypothesis d a w) = file.hypothesis d a w
record_means (Rule h places) = file.rule h places
record_means End = file.finish

-- What reading answers: "the record and the place of the next, or refusal 1 or 2 and its place"
unfoldable pub read_means : Result Found RefusedAt → FileAnswer file.Found
read_means (Ok r) = accepted (record { found = record_means r.record; next = r.next })
read_means (Err r) = refused_at (refusal_number r.refusal) r.place

-- ---- loading

-- the answer by itself
unfoldable pub outcome_of : FileAnswer Board → FileAnswer Unit
outcome_of (accepted b) = accepted tt
outcome_of (refused_at number place) = refused_at number place

-- the table of the board that was accepted: "The table keeps the records' order."
unfoldable pub table_answer : FileAnswer Board → FileAnswer Table
table_answer (accepted b) = accepted (table_of b)
table_answer (refused_at number place) = refused_at number place

-- what loading answers. "A refused load returns the table whose every field is zero": beside this `load` ensures that its `unwrap_or_default` is
-- `table_in`, and under C names the table stands beside the refusal (`load_answer`).
abbrev pub LoadsAs : FileAnswer Board → Result Table RefusedAt → Type 0
LoadsAs answer r = file_answer_means r ≡ table_answer answer

-- ---- the yes-or-no

-- "There is a public yes-or-no for one atom in one board state"; "The yes-or-no checks 20, 25, 22"
unfoldable pub yes_or_no : Table → List ℕ → ℕ → Answer Bool
yes_or_no t s a =
    cond (not (is_table t)) (refused 20)
    (cond (not (is_state_of (declarations (board_of t)) s)) (refused 25)
    (cond (leb t.atoms a) (refused 22)
    (granted (holds (in_state s) (board_of t) a))))
