-- The loader record by record, for the contracts of its parts. Assumes nothing.
use Rattle.std.specs.Prelude.{◌≡◌, ℕ, zero, suc, ◌≤◌, true, false, cond, List, ltb, Result, Ok, Err}
use Rattle.board.specs.Sizes.{most_atoms, most_w}
use Rattle.board.specs.Answers.{FileAnswer, accepted, refused_at, refusal_number}
use Rattle.board.specs.Board.{Board, W}
use Rattle.board.specs.File.{Record, Found, read_record}
use Rattle.board.specs.Load.{misplaced_at, first_failing, field_checks, taking, is_finish, at_the_end}
use Rattle.files.specs.Private.Seen.{SeenOf}
use Rattle.board.specs.declared.Refusal.{Refusal}
use Rattle.files.specs.declared.checks.Seen.{Seen}

-- the number of the check that failed; 0 where none did
abbrev pub failed_number : Result Unit Refusal → ℕ
failed_number (Ok x) = 0
failed_number (Err r) = refusal_number r

-- what an end record at `at` leads to: "Refusal 8 is checked at the end record", then nothing follows
unfoldable pub ending : List ℕ → ℕ → ℕ → Board → FileAnswer Board
ending file at next b = cond (ltb most_w (W b)) (refused_at 8 at) (at_the_end file next b)

-- the number of the first field check that fails, 0 where none does; an end record's check is `ending`'s
unfoldable pub field_refusal : Board → Record → ℕ
field_refusal b r = cond (is_finish r) 0 (first_failing (field_checks b r))

-- a record that was read, if it passes its field checks
unfoldable pub checked_record : ℕ → Board → FileAnswer Found → FileAnswer Found
checked_record at b (refused_at number place) = refused_at number place
checked_record at b (accepted r) = elim (field_refusal b r.found) [ zero ↦ accepted r | suc number ↦ refused_at (suc number) at ]

-- the record at a place, if it may stand there and passes: "wrong place, 3; body too short, 1; then the field checks"
unfoldable pub passed_record : List ℕ → ℕ → Board → FileAnswer Found
passed_record file at b = elim (misplaced_at file at b) [ true ↦ refused_at 3 at | false ↦ checked_record at b (read_record file at) ]

-- what is known of a board becomes what is known of it with one record more that passes
abbrev pub SeenAfter : Seen → Record → Seen → Type 0
SeenAfter s r u =
    (b : Board) → b.atoms ≤ most_atoms → SeenOf b s → first_failing (field_checks b r) ≡ 0 → SeenOf (taking b r) u
