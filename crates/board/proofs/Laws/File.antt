-- Laws of a file's bytes. Assumes nothing.
pub mod Bytes
use mathlib.Core.Path.{◌≡◌, ap, ap₂}
use Prim.Native.Nat.{ℕ, zero, suc, ◌+◌, ◌-◌, ◌*◌, ◌/◌, ◌%◌, ◌≤◌, ◌<◌}
use native.Mathlib.Omega.{arith}
use mathlib.Core.List.{List, ◌∷◌}
use lib.ListN.{length, get_or, take, drop}
use lib.Arith.{digits_div, digits_mod}
use lib.Seq.{drop-cons}
use mathlib.Core.Bool.{Bool, true, false, cond}
use lib.Dec.{eqb}
use borrow.Author.Tests.{le-leb, lt-leb}
use Rattle.board.specs.Answers.{accepted, refused_at}
use Rattle.board.specs.File.{body_bytes, low_bytes, known_kind, record_of, next_place, read_record}

-- a byte put below a number is its lowest byte
pub low_bytes_push : (k n b : ℕ) → b < 256 → low_bytes (suc k) (n * 256 + b) ≡ b ∷ low_bytes k n
unfolding low_bytes
low_bytes_push k n b h = ap₂ (λ (x y : ℕ). x ∷ low_bytes k y) (digits_mod n h) (digits_div n h)

-- the lowest byte of a number, and those above it
pub low_bytes_pop : (k n : ℕ) → zero < k → low_bytes k n ≡ n % 256 ∷ low_bytes (k - 1) (n / 256)
unfolding low_bytes
low_bytes_pop zero n h = let no : ⊥ = omega arith in absurd no
low_bytes_pop (suc k) n h = let e : suc k - 1 ≡ k = omega arith in rw e

-- one more byte in front of a run of bytes
pub take-drop-cons : (k j : ℕ) (xs : List ℕ) → j < length xs → take (suc k) (drop j xs) ≡ get_or xs j 0 ∷ take k (drop (suc j) xs)
take-drop-cons k j xs h = ap (take (suc k)) (drop-cons xs j 0 h)

-- ---- the body's length and the record, by the kind

-- no body has more than 9 bytes
pub body_bytes-le : (kind : ℕ) → body_bytes kind ≤ 9
unfolding body_bytes
body_bytes-le kind = cond-le (eqb kind 1) (omega arith) (cond-le (eqb kind 2) (omega arith) (cond-le (eqb kind 3) (omega arith) (omega arith)))
  where
    cond-le : (t : Bool) {x y : ℕ} → x ≤ 9 → y ≤ 9 → cond t x y ≤ 9
    cond-le true h k = h
    cond-le false h k = k

-- a count has 1
pub body_bytes-count : {kind : ℕ} → kind ≡ 1 → body_bytes kind ≡ 1
unfolding body_bytes
body_bytes-count e = rw e

-- a hypothesis has 5
pub body_bytes-hypothesis : {kind : ℕ} → kind ≡ 2 → body_bytes kind ≡ 5
unfolding body_bytes
body_bytes-hypothesis e = rw e

-- a rule has 9
pub body_bytes-rule : {kind : ℕ} → kind ≡ 3 → body_bytes kind ≡ 9
unfolding body_bytes
body_bytes-rule e = rw e

-- ---- the four answers of reading one record

module _ (file : List ℕ) (at : ℕ) where
  -- no byte left
  pub read_past : length file ≤ at → read_record file at ≡ refused_at 1 (length file)
  unfolding read_record
  read_past h = simp (le-leb _ _ h)

  -- an unknown kind
  pub read_unknown : at < length file → known_kind (get_or file at 0) ≡ false → read_record file at ≡ refused_at 2 at
  unfolding read_record
  read_unknown h k = simp (lt-leb _ _ h, k)

  -- a body too short
  pub read_short : at < length file → known_kind (get_or file at 0) ≡ true → length file < next_place (get_or file at 0) at → read_record file at ≡ refused_at 1 at
  unfolding read_record
  read_short h k s = simp (lt-leb _ _ h, k, lt-leb _ _ s)

  -- a whole record
  pub read_whole : at < length file → known_kind (get_or file at 0) ≡ true → next_place (get_or file at 0) at ≤ length file
      → read_record file at ≡ accepted (record { found = record_of (get_or file at 0) file (at + 1); next = next_place (get_or file at 0) at })
  unfolding read_record
  read_whole h k s = simp (lt-leb _ _ h, k, le-leb _ _ s)

-- a kind from 1 to 4 is known
pub known : (kind : ℕ) → 1 ≤ kind → kind ≤ 4 → known_kind kind ≡ true
unfolding known_kind
known kind l h = simp (le-leb _ _ l, le-leb _ _ h)

-- a kind above 4 is not
pub unknown_high : (kind : ℕ) → 4 < kind → known_kind kind ≡ false
unfolding known_kind
unknown_high kind h = simp (le-leb 1 kind (omega arith), lt-leb _ _ h)
