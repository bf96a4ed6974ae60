-- Demand 3 of what is printed: where the file loads and the question is accepted, the lines and ends are those of the run, and demand 3 holds of it. Assumes nothing.
use Rattle.std.specs.Prelude.{ℕ, ◌+◌, ◌*◌, ◌≤◌, ◌≡◌, List, [], ◌∷◌, T, length, get_or, take}
use Rattle.std.proofs.Math.Option.{some}
use Rattle.std.proofs.Math.Pow.{are_bytes}
use Rattle.board.specs.Answers.{accepted, granted}
use Rattle.board.specs.Board.{Board}
use Rattle.board.specs.Load.{load}
use Rattle.board.specs.Table.{table_of}
use Rattle.search.specs.Search.{Search, bench}
use Rattle.search.specs.Store.{stored_of}
use Rattle.search.specs.EntryPoints.{open_question, RunAnswer, run_search}
use Rattle.search.specs.Listing.{ran_text, listing}
use Rattle.bounds.specs.Demand3.{Right}
use Rattle.text.specs.Lent.{most_text, LentAs}

-- the run that is printed: one from the search s, with an allowance
abbrev pub printed_run : Board → Search → ℕ → RunAnswer
printed_run b s allowance = run_search bench (table_of b) (stored_of s) allowance

-- the text is that of this run, and what demand 3 claims of a sequence holds of it
pub record PrintsRight (b : Board) (question : List ℕ) (s : Search) (allowance : ℕ) (text : List ℕ) : Type 0 where
  pub printed : text ≡ ran_text b (printed_run b s allowance)
  pub right : Right b question (stored_of s) (printed_run b s allowance ∷ [])

-- So of the bytes lent to `listing`, with room for every listing, for an input of "a count byte, the atoms and a two-byte allowance, low byte first"
unfoldable pub ListsRight : Type 0
ListsRight =
    (file : List ℕ) → T (are_bytes file) → (b : Board) → load file ≡ accepted b
    → (count : ℕ) (input : List ℕ) → count + 2 ≤ length input
    → (s : Search) → open_question (table_of b) (take count input) ≡ granted s
    → (before after : List ℕ) (n : ℕ) → most_text ≤ length before → LentAs (listing (some file) (count ∷ input)) before after n
    → PrintsRight b (take count input) s (get_or input count 0 + 256 * get_or input (count + 1) 0) (take n after)
