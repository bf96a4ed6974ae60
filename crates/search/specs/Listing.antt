-- What the listing program prints, byte for byte: document 01, "The 001 board, whole". "Every line ends in a line feed, and single blanks stand only
-- between its parts. The first line is W. Each further line is a weight and the set's atoms, ascending. The last has the ends, the steps of this
-- run, then done, more or the refusal's number." Assumes nothing.
use Rattle.std.specs.Prelude.{ℕ, zero, suc, ◌+◌, ◌*◌, ◌/◌, ◌%◌, true, false, cond, ltb, length, get_or, take}
use Prim.Native.Char.{code}
use Prim.Native.String.{String, [] as ε, ◌∷◌ as ◌▸◌}
use mathlib.Core.List.{List, [], ◌∷◌, ◌++◌, map, flatten}
use Rattle.std.proofs.Math.Option.{Option, none, some}
use Rattle.sets.specs.Sets.{members}
use Rattle.board.specs.Answers.{FileAnswer, accepted, refused_at, Answer, granted, refused}
use Rattle.board.specs.Board.{Board, W}
use Rattle.board.specs.Load.{load}
use Rattle.board.specs.Table.{table_of}
use Rattle.search.specs.Order.{Line}
use Rattle.search.specs.Search.{Search, Limits, bench, Ending, done, more, stopped}
use Rattle.search.specs.Store.{search_of, stored_of}
use Rattle.search.specs.EntryPoints.{open_question, RunAnswer, run_search}

-- ---- text

-- the bytes of a text
unfoldable pub bytes_of : String → List ℕ
bytes_of ε = []
bytes_of (c ▸ rest) = code c ∷ bytes_of rest

-- the decimal digits of n, over at most `digits` of them
unfoldable pub decimal_of : ℕ → ℕ → List ℕ
decimal_of zero n = []
decimal_of (suc digits) n =
    elim (ltb n 10) [ true ↦ (48 + n) ∷ [] | false ↦ decimal_of digits (n / 10) ++ ((48 + n % 10) ∷ []) ]

-- a number in decimal: it has no more digits than the number after it
unfoldable pub decimal : ℕ → List ℕ
decimal n = decimal_of (suc n) n

-- ---- the parts of a listing

-- atoms, each after a blank
abbrev pub atoms_text : List ℕ → List ℕ
atoms_text atoms = flatten (map (λ a. bytes_of " " ++ decimal a) atoms)

-- "Each further line is a weight and the set's atoms, ascending."
unfoldable pub line_text : Line → List ℕ
line_text l = decimal l.weight ++ atoms_text (members l.chosen) ++ bytes_of "\n"

-- "then done, more or the refusal's number"
unfoldable pub ending_text : Ending → List ℕ
ending_text done = bytes_of "done"
ending_text more = bytes_of "more"
ending_text (stopped number) = decimal number

-- "The last has the ends, the steps of this run, then .."
abbrev pub ends_text : ℕ → ℕ → ℕ → Ending → List ℕ
ends_text low high steps ending =
    bytes_of "low "
    ++ decimal low
    ++ bytes_of " high "
    ++ decimal high
    ++ bytes_of " steps "
    ++ decimal steps
    ++ bytes_of " "
    ++ ending_text ending
    ++ bytes_of "\n"

-- so of a run
unfoldable pub last_text : RunAnswer → List ℕ
last_text r = ends_text r.low r.high r.steps r.ending

-- "The first line is W"; the lines; the last line
unfoldable pub ran_text : Board → RunAnswer → List ℕ
ran_text b r =
    bytes_of "total "
    ++ decimal (W b)
    ++ bytes_of "\n"
    ++ flatten (map line_text (search_of r.search).lines)
    ++ last_text r

-- "a refused question prints only `refused` and the number"
unfoldable pub refused_text : ℕ → List ℕ
refused_text number = bytes_of "refused " ++ decimal number ++ bytes_of "\n"

-- "A refused file prints only `refused`, the number, `at`, the place"
unfoldable pub refused_file_text : ℕ → ℕ → List ℕ
refused_file_text number place =
    bytes_of "refused " ++ decimal number ++ bytes_of " at " ++ decimal place ++ bytes_of "\n"

-- ---- the listing

-- what is printed once the question is opened or refused
unfoldable pub opened_text : Limits → Board → Answer Search → ℕ → List ℕ
opened_text limits b (granted s) allowance = ran_text b (run_search limits (table_of b) (stored_of s) allowance)
opened_text limits b (refused number) allowance = refused_text number

-- "from standard input a count byte, the atoms and a two-byte allowance, low byte first"; "input beyond the allowance is ignored; input too short
-- for its count and allowance is refused with 21"
unfoldable pub asked_text : Limits → Board → List ℕ → List ℕ
asked_text limits b [] = refused_text 21
asked_text limits b (count ∷ input) =
    cond (ltb (length input) (count + 2)) (refused_text 21)
    (opened_text limits b (open_question (table_of b) (take count input))
    (get_or input count 0 + 256 * get_or input (count + 1) 0))

-- what is printed once the file is loaded or refused: of a refused file "the question is not looked at"
unfoldable pub loaded_text : Limits → FileAnswer Board → List ℕ → List ℕ
loaded_text limits (accepted b) input = asked_text limits b input
loaded_text limits (refused_at number place) input = refused_file_text number place

-- "A file that will not open counts as empty"
unfoldable pub opened : Option (List ℕ) → List ℕ
opened none = []
opened (some file) = file

-- what is printed for a board file and an input, at a pair of limits
unfoldable pub listing_at : Limits → Option (List ℕ) → List ℕ → List ℕ
listing_at limits file input = loaded_text limits (load (opened file)) input

-- the listing program of the bench scope
unfoldable pub listing : Option (List ℕ) → List ℕ → List ℕ
listing file input = listing_at bench file input
