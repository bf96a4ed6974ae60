-- The board file, record by record: document 01, "The board file". A file is a list of bytes; a place is an index into it.
-- Assumes nothing.
use Rattle.std.specs.Prelude.{ℕ, zero, suc, ◌+◌, ◌*◌, ◌/◌, ◌%◌, Bool, ◌&&◌, cond, List, [], ◌∷◌, leb, eqb, length, get_or, take, drop}
use Rattle.board.specs.Sizes.{most_body}
use Rattle.board.specs.Answers.{FileAnswer, accepted, refused_at}

-- "Each record is one byte of kind, then a body."
pub data Record : Type 0 where
  -- kind 1: the atom count
  count : ℕ → Record
  -- kind 2: declaration, atom, weight
  hypothesis : ℕ → ℕ → ℕ → Record
  -- kind 3: head, then the 8 places for body atoms
  rule : ℕ → List ℕ → Record
  -- kind 4: the end
  finish : Record

-- "kind byte not 1 to 4" is refusal 2
unfoldable pub known_kind : ℕ → Bool
known_kind kind = leb 1 kind && leb kind 4

-- "body bytes", by the kind
unfoldable pub body_bytes : ℕ → ℕ
body_bytes kind = cond (eqb kind 1) 1 (cond (eqb kind 2) 5 (cond (eqb kind 3) 9 0))

-- "weight in 3 bytes, low byte first"
unfoldable pub three_bytes : List ℕ → ℕ → ℕ
three_bytes file at = get_or file at 0 + 256 * get_or file (at + 1) 0 + 65536 * get_or file (at + 2) 0

-- the k low bytes of a number, low byte first
unfoldable pub low_bytes : ℕ → ℕ → List ℕ
low_bytes zero n = []
low_bytes (suc k) n = n % 256 ∷ low_bytes k (n / 256)

-- the record of a kind whose body begins at `at`
unfoldable pub record_of : ℕ → List ℕ → ℕ → Record
record_of kind file at =
    cond (eqb kind 1) (count (get_or file at 0))
    (cond (eqb kind 2)
    (hypothesis (get_or file at 0) (get_or file (at + 1) 0) (three_bytes file (at + 2)))
    (cond (eqb kind 3) (rule (get_or file at 0) (take most_body (drop (at + 1) file))) finish))

-- "Reading one record gives the record and the place of the next"
pub record Found : Type 0 where
  pub found : Record
  pub next : ℕ

-- the place after a record of this kind at `at`
unfoldable pub next_place : ℕ → ℕ → ℕ
next_place kind at = at + 1 + body_bytes kind

-- ".. or refusal 1 or 2 and its place, a place past the file's end taken as the file's length": "no byte left, 1; unknown kind, 2; .. body
-- too short, 1"
unfoldable pub read_record : List ℕ → ℕ → FileAnswer Found
read_record file at =
    cond (leb (length file) at) (refused_at 1 (length file))
    (let kind = get_or file at 0 in
    cond (known_kind kind)
    (cond (leb (next_place kind at) (length file))
    (accepted (record { found = record_of kind file (at + 1); next = next_place kind at }))
    (refused_at 1 at))
    (refused_at 2 at))
