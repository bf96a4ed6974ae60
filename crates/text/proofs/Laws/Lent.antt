-- What becomes of lent bytes: too few stay as they were; enough hold the text; and 0 is answered for too few alone. Assumes nothing.
use Prim.Native.Nat.{ℕ, ◌+◌, ◌*◌, ◌≤◌, ◌<◌}
use native.Mathlib.Nat.{lt_of_not-le}
use native.Mathlib.Omega.{arith}
use mathlib.Core.Path.{◌≡◌, sym, ap, ◌∙◌}
use mathlib.Core.Bool.{Bool, true, false, cond}
use mathlib.Core.List.{List, [], ◌∷◌, ◌++◌}
use mathlib.Core.Option.{Option}
use lib.Dec.{ltb}
use lib.ListN.{length, get_or, take, drop, length-append, length-drop, take-append-drop}
use borrow.Author.Tests.{lt-ltb, le-ltb}
use Rattle.board.specs.Answers.{FileAnswer, accepted, refused_at, Answer, granted, refused}
use Rattle.board.specs.Board.{Board}
use Rattle.board.specs.Load.{load}
use Rattle.board.specs.Table.{table_of}
use Rattle.search.specs.Search.{Search, bench}
use Rattle.search.specs.EntryPoints.{open_question}
use Rattle.search.specs.Listing.{bytes_of, ran_text, refused_text, refused_file_text, opened_text, asked_text, opened, loaded_text, listing, listing_at}
use Rattle.text.specs.Lent.{most_text, text_in, bytes_in, LentAs}

-- too few
pub lent_short : {text before : List ℕ} → length before < most_text → LentAs text before before 0
unfolding text_in bytes_in
lent_short {before = before} l = let short = lt-ltb (length before) most_text l in record { bytes = rw short; count = rw short }

-- enough
pub lent-put : {text before after : List ℕ} {r : ℕ} → most_text ≤ length before → r ≡ length text → take r after ≡ text → drop r after ≡ drop r before
    → LentAs text before after r
unfolding text_in bytes_in
lent-put {text} {before} {after} {r} l long front behind =
    let enough = le-ltb (length before) most_text l in
    record { bytes = rw enough (sym (take-append-drop r after) ∙ rw (front, behind, long)); count = rw enough long }

-- as many bytes as were put are there
pub lent-room : (text : List ℕ) {before after : List ℕ} {r : ℕ} → LentAs text before after r → length after ≡ length before → r ≤ length after
unfolding text_in bytes_in
lent-room text {before} {after} {r} h e = go (ltb (length before) most_text) h.bytes h.count
  where
    go : (u : Bool) → after ≡ cond u before (text ++ drop (length text) before) → r ≡ cond u 0 (length text) → r ≤ length after
    go true b c = omega arith
    go false b c = omega (arith, ap length b, length-append text (drop (length text) before), length-drop (length text) before)

-- ---- no listing is empty

refused_some : (number : ℕ) → 0 < length (refused_text number)
unfolding refused_text bytes_of
refused_some number = simp length-append (omega arith)

opened_some : (b : Board) (a : Answer Search) (allowance : ℕ) → 0 < length (opened_text bench b a allowance)
unfolding opened_text ran_text bytes_of
opened_some b (granted s) allowance = simp length-append (omega arith)
opened_some b (refused number) allowance = refused_some number

asked_some : (b : Board) (input : List ℕ) → 0 < length (asked_text bench b input)
unfolding asked_text
asked_some b [] = refused_some 21
asked_some b (count ∷ input) = go (ltb (length input) (count + 2))
  where
    go : (short : Bool) → 0 < length (cond short (refused_text 21) (opened_text bench b (open_question (table_of b) (take count input)) (get_or input count 0 + 256 * get_or input (count + 1) 0)))
    go true = refused_some 21
    go false = opened_some b (open_question (table_of b) (take count input)) (get_or input count 0 + 256 * get_or input (count + 1) 0)

loaded_some : (a : FileAnswer Board) (input : List ℕ) → 0 < length (loaded_text bench a input)
unfolding loaded_text refused_file_text bytes_of
loaded_some (accepted b) input = asked_some b input
loaded_some (refused_at number place) input = simp length-append (omega arith)

-- every listing has a byte
pub listing_some : (file : Option (List ℕ)) (input : List ℕ) → 0 < length (listing file input)
unfolding listing listing_at
listing_some file input = loaded_some (load (opened file)) input

-- so 0 is answered exactly where there is too little room
pub lent_none : (file : Option (List ℕ)) (input : List ℕ) {before after : List ℕ} {r : ℕ} → LentAs (listing file input) before after r
    → (r ≡ 0 → length before < most_text) × (length before < most_text → r ≡ 0)
unfolding bytes_in
lent_none file input {before} h = (
  λ z. lt_of_not-le (λ m. omega (arith, listing_some file input, rw (le-ltb (length before) most_text m) at h.count)),
  λ l. rw (lt-ltb (length before) most_text l) at h.count,
)
