-- The answers under C names: those of `board` and `search`, field by field. Document 01, "What the scope says no to": a refusal is its number, and for a file
-- its place. Where nothing was refused the number is 0 (of a run 0 for done and 1 for more), and so is a
-- place or a value where there is none. Assumes nothing.
use Rattle.std.specs.Prelude.{ℕ, Bool, true, false, not, cond}
use Rattle.board.specs.Answers.{FileAnswer, accepted, refused_at, Answer, granted, refused}
use Rattle.board.specs.Board.{Board, W}
use Rattle.board.specs.Table.{board_of, is_table, table_in}
use Rattle.board.specs.declared.Table.{Table}
use Rattle.search.specs.Search.{Search, Ending, done, more, stopped}
use Rattle.search.specs.EntryPoints.{opened_search}
use Rattle.search.specs.EntryPoints as entry
use Rattle.firmware.specs.declared.LoadAnswer.{LoadAnswer}
use Rattle.firmware.specs.declared.OpenAnswer.{OpenAnswer}
use Rattle.firmware.specs.declared.RunAnswer.{RunAnswer}
use Rattle.firmware.specs.declared.ShareAnswer.{ShareAnswer}
use Rattle.firmware.specs.declared.HoldsAnswer.{HoldsAnswer}
use Rattle.firmware.specs.declared.TotalAnswer.{TotalAnswer}

-- ---- loading

-- the number of a file's refusal
unfoldable pub file_number : {A : Type 0} → FileAnswer A → ℕ
file_number (accepted x) = 0
file_number (refused_at number place) = number

-- its place in the file
unfoldable pub file_place : {A : Type 0} → FileAnswer A → ℕ
file_place (accepted x) = 0
file_place (refused_at number place) = place

-- "A refused load returns the table whose every field is zero."
unfoldable pub load_answer : FileAnswer Board → LoadAnswer
load_answer answer = record { number = file_number answer; place = file_place answer; table = table_in answer }

-- ---- opening

-- the number of any other refusal
unfoldable pub number_of : {A : Type 0} → Answer A → ℕ
number_of (granted x) = 0
number_of (refused number) = number

-- "A refused opening returns the search whose every field is zero"
unfoldable pub open_answer : Answer Search → OpenAnswer
open_answer answer = record { number = number_of answer; search = opened_search answer }

-- ---- the run

-- "The answer is done if the store is empty, the refusal if one stopped it, else more." No refusal of a run has the number 0 or 1 (`run-read` in
-- proofs/Laws/Endings).
unfoldable pub ending_number : Ending → ℕ
ending_number done = 0
ending_number more = 1
ending_number (stopped number) = number

-- the search after the run, how it ended, its steps and both ends
unfoldable pub run_answer : entry.RunAnswer → RunAnswer
run_answer answer =
    record {
      search = answer.search;
      ending = ending_number answer.ending;
      steps = answer.steps;
      low = answer.low;
      high = answer.high;
    }

-- ---- the share

-- the number that was granted
unfoldable pub granted_number : Answer ℕ → ℕ
granted_number (granted n) = n
granted_number (refused number) = 0

-- "A refused yes-or-no or share returns its number alone."
unfoldable pub share_answer : Answer ℕ → ShareAnswer
share_answer answer = record { number = number_of answer; thousandths = granted_number answer }

-- ---- the yes-or-no

-- yes as 1, no as 0
unfoldable pub held_number : Answer Bool → ℕ
held_number (granted true) = 1
held_number (granted false) = 0
held_number (refused number) = 0

-- "A refused yes-or-no or share returns its number alone."
unfoldable pub holds_answer : Answer Bool → HoldsAnswer
holds_answer answer = record { number = number_of answer; holds = held_number answer }

-- ---- W

-- "W is the product of all totals", of a table that a file loads to; 20: "a table handed in that no file loads to"
unfoldable pub total_of : Table → Answer ℕ
total_of t = cond (not (is_table t)) (refused 20) (granted (W (board_of t)))

-- W, or the number alone
unfoldable pub total_answer : Answer ℕ → TotalAnswer
total_answer answer = record { number = number_of answer; total = granted_number answer }
