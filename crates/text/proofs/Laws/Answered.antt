-- What is printed of a question and of an input, from what loading and opening handed back. Assumes nothing.
use Prim.Native.Nat.{ℕ, ◌+◌, ◌*◌, ◌≤◌, ◌<◌}
use native.Mathlib.Nat.{add-zero}
use native.Mathlib.Omega.{arith}
use mathlib.Core.Path.{◌≡◌, refl, sym, ap, ap₂, ◌∙◌}
use mathlib.Core.List.{List, [], ◌∷◌}
use mathlib.Core.Option.{some}
use lib.Dec.{T}
use lib.ListN.{length, get_or, take, drop}
use lib.Pow.{are_bytes}
use Rattle.std.proofs.lemmas.List.{get_or-drop}
use borrow.Author.Tests.{lt-ltb, le-ltb}
use Rattle.board.specs.Answers.{granted, refused, accepted, refused_at}
use Rattle.board.specs.Board.{Board}
use Rattle.board.specs.Load.{load}
use Rattle.board.specs.Table.{table_of, board_of, is_table}
use Rattle.board.specs.EntryPoints.{table_answer}
use Rattle.board.specs.declared.Table.{Table}
use Rattle.board.proofs.Promise.{Accepted, is_table-stored, accepted-is_table, board_of-table_of, accepted-of, refused_at-of, accepted_iff}
use Rattle.search.specs.Search.{Search, bench}
use Rattle.search.specs.Store.{stored_of}
use Rattle.search.specs.EntryPoints.{open_question, stored_answer, run_search}
use Rattle.search.specs.declared.Search.{Search as Stored}
use Rattle.search.specs.Listing.{ran_text, refused_text, refused_file_text, opened_text, asked_text, opened, loaded_text, listing, listing_at}
use Rattle.search.proofs.Laws.EntryPoints.{granted-of, refused-of}

-- ---- a question

module _ (t : Table) (h : T (is_table t)) (question : List ℕ) (allowance : ℕ) where
  -- a refused question
  pub opened-refused : (number : ℕ) → refused number ≡ stored_answer (open_question t question)
      → opened_text bench (board_of t) (open_question t question) allowance ≡ refused_text number
  unfolding opened_text
  opened-refused number e = rw (refused-of (open_question t question) number e)

  module _ (s : Stored) (e : granted s ≡ stored_answer (open_question t question)) where
    -- what is printed of a run from the search that opening handed back
    abbrev printed : List ℕ
    printed = ran_text (board_of t) (run_search bench t s allowance)

    was : (q : Search) × (open_question t question ≡ granted q) × (s ≡ stored_of q)
    was = granted-of (open_question t question) s e

    -- from this search the run is that of the definition
    runs : run_search bench t s allowance ≡ run_search bench (table_of (board_of t)) (stored_of was.0) allowance
    runs = ap₂ (λ (u : Table) s. run_search bench u s allowance) (is_table-stored t h) was.2

    -- an accepted one: what is printed of its run
    pub opened-accepted : opened_text bench (board_of t) (open_question t question) allowance ≡ printed
    unfolding opened_text
    opened-accepted = rw (runs, was.1)

-- what the check needs of a question
pub ruleset questions = (opened-accepted, opened-refused)

-- ---- an input

module _ (b : Board) where
  -- no byte
  pub asked-none : (input : List ℕ) → length input ≡ 0 → asked_text bench b input ≡ refused_text 21
  unfolding asked_text
  asked-none [] e = refl
  asked-none (x ∷ input) e = absurd (omega arith)

  -- too few bytes for the count and the allowance
  pub asked_short : (count : ℕ) (input : List ℕ) → length input < count + 2 → asked_text bench b (count ∷ input) ≡ refused_text 21
  unfolding asked_text
  asked_short count input l = rw (lt-ltb (length input) (count + 2) l)

  -- enough
  pub asked-whole : (count : ℕ) (input : List ℕ) (allowance : ℕ) → count + 2 ≤ length input
      → allowance ≡ get_or (drop count input) 0 0 + 256 * get_or (drop count input) 1 0
      → asked_text bench b (count ∷ input) ≡ opened_text bench b (open_question (table_of b) (take count input)) allowance
  unfolding asked_text
  asked-whole count input allowance l e =
      rw (le-ltb (length input) (count + 2) l, e, get_or-drop count input 0 0, get_or-drop count input 1 0, add-zero)

-- ---- a file

module _ (file input : List ℕ) where
  -- a refused one
  pub loaded-refused : (number place : ℕ) → refused_at number place ≡ table_answer (load file) → listing (some file) input ≡ refused_file_text number place
  unfolding listing listing_at opened loaded_text
  loaded-refused number place e = rw (refused_at-of (load file) number place e)

  module _ (bytes : T (are_bytes file)) (t : Table) (e : accepted t ≡ table_answer (load file)) where
    was_accepted : (b : Board) × (load file ≡ accepted b) × (t ≡ table_of b)
    was_accepted = accepted-of (load file) t e

    board : Accepted was_accepted.0
    board = (accepted_iff was_accepted.0).1 (file, bytes, was_accepted.1)

    -- an accepted one's table is one
    pub loaded-table : T (is_table t)
    loaded-table = accepted-is_table board t was_accepted.2

    -- and its question is looked at
    pub loaded-asked : listing (some file) input ≡ asked_text bench (board_of t) input
    unfolding listing listing_at opened loaded_text
    loaded-asked = rw was_accepted.1 (ap (λ (b : Board). asked_text bench b input) (sym (ap board_of was_accepted.2 ∙ board_of-table_of board)))
