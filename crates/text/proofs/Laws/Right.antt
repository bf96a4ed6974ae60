-- Demand 3 of what is printed. Assumes nothing.
use Prim.Native.Nat.{ℕ, ◌+◌, ◌*◌, ◌≤◌}
use mathlib.Core.Path.{◌≡◌, refl}
use mathlib.Core.List.{List, [], ◌∷◌}
use mathlib.Core.Option.{some}
use lib.Dec.{T}
use lib.ListN.{length, get_or, take, drop}
use lib.Pow.{are_bytes}
use lib.Seq.{take_at}
use borrow.Author.Tests.{le-ltb}
use Rattle.board.specs.Answers.{accepted, granted}
use Rattle.board.specs.Board.{Board}
use Rattle.board.specs.Load.{load}
use Rattle.board.specs.Table.{table_of}
use Rattle.board.proofs.Promise.{accepted_iff}
use Rattle.search.specs.Search.{Search}
use Rattle.search.specs.EntryPoints.{open_question}
use Rattle.search.specs.Listing.{opened_text, asked_text, loaded_text, opened, listing, listing_at}
use Rattle.bounds.specs.Demand3.{runs}
use Rattle.bounds.proofs.Demand3.{demand3_board}
use Rattle.text.specs.Lent.{most_text, text_in, bytes_in}
use Rattle.text.specs.Right.{PrintsRight, ListsRight}

-- the listing
listing-right : (file : List ℕ) → T (are_bytes file) → (b : Board) → load file ≡ accepted b → (count : ℕ) (input : List ℕ) → count + 2 ≤ length input
    → (s : Search) → open_question (table_of b) (take count input) ≡ granted s
    → PrintsRight b (take count input) s (get_or input count 0 + 256 * get_or input (count + 1) 0) (listing (some file) (count ∷ input))
unfolding listing listing_at opened loaded_text asked_text opened_text runs
listing-right file bytes b loaded count input enough s on =
    let allowance = get_or input count 0 + 256 * get_or input (count + 1) 0 in
    record {
      printed = rw (loaded, le-ltb (length input) (count + 2) enough, on);
      right = demand3_board b ((accepted_iff b).1 (file, bytes, loaded)) (take count input) s on (allowance ∷ []);
    }

-- what stands in the bytes lent
pub lists_right : ListsRight
unfolding ListsRight text_in bytes_in
lists_right file bytes b loaded count input enough s on before after n room lent =
    let text = listing (some file) (count ∷ input) in
    let whole : take n after ≡ text = rw (lent.bytes, lent.count, le-ltb (length before) most_text room) (take_at text (drop (length text) before) (length text) refl) in
    rw whole (listing-right file bytes b loaded count input enough s on)
