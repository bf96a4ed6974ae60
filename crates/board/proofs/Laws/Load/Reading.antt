-- What it tells that a record was read, and that it is not misplaced. Assumes nothing.
use Prim.Native.Nat.{ℕ, ◌+◌, ◌≤◌, ◌<◌}
use native.Mathlib.Omega.{arith}
use mathlib.Core.Path.{◌≡◌, refl}
use mathlib.Core.Bool.{Bool, true, false, not, cond, true≢false}
use mathlib.Core.List.{List}
use lib.ListN.{length, get_or}
use lib.Dec.{leb, eqb}
use borrow.Author.Tests.{leb-true, leb-false, eqb-true, lt-ltb, not-false}
use Rattle.sets.specs.Lists.{is_empty}
use Rattle.board.specs.Answers.{accepted, refused_at}
use Rattle.board.specs.Board.{Board}
use Rattle.board.specs.File.{Found, known_kind, record_of, next_place, read_record}
use Rattle.board.specs.Load.{misplaced, misplaced_at}

-- ---- a record that was read

-- the record of the kind at the place is whole
pub record Read (file : List ℕ) (at : ℕ) (r : Found) : Type 0 where
  pub there : at < length file
  pub known : known_kind (get_or file at 0) ≡ true
  pub whole : next_place (get_or file at 0) at ≤ length file
  pub same : r ≡ record { found = record_of (get_or file at 0) file (at + 1); next = next_place (get_or file at 0) at }

-- a record that is accepted was there, known and whole
pub read-accepted : (file : List ℕ) (at : ℕ) (r : Found) → read_record file at ≡ accepted r → Read file at r
unfolding read_record
read-accepted file at r e =
    go (leb (length file) at) (known_kind (get_or file at 0)) (leb (next_place (get_or file at 0) at) (length file)) refl refl refl e
  where
    read : Found
    read = record { found = record_of (get_or file at 0) file (at + 1); next = next_place (get_or file at 0) at }

    none : (number place : ℕ) → refused_at number place ≡ accepted r → Read file at r
    none number place q = absurd (let z : ◌≡◌ {A = ℕ} 0 1 = cc in omega arith)

    go : (s t u : Bool) → leb (length file) at ≡ s → known_kind (get_or file at 0) ≡ t → leb (next_place (get_or file at 0) at) (length file) ≡ u
        → cond s (refused_at 1 (length file)) (cond t (cond u (accepted read) (refused_at 1 at)) (refused_at 2 at)) ≡ accepted r → Read file at r
    go true t u x y z q = none 1 (length file) q
    go false false u x y z q = none 2 at q
    go false true false x y z q = none 1 at q
    go false true true x y z q =
        record { there = leb-false (length file) at x; known = y; whole = leb-true (next_place (get_or file at 0) at) (length file) z; same = cc }

-- ---- a record that is not misplaced

-- of a record of a known kind
pub not-misplaced : (file : List ℕ) (at : ℕ) (b : Board) → misplaced_at file at b ≡ false → at < length file → known_kind (get_or file at 0) ≡ true
    → misplaced b (get_or file at 0) ≡ false
unfolding misplaced_at
not-misplaced file at b m l k = simp (lt-ltb at (length file) l, k) at m

-- the count comes first ..
pub placed-count : (b : Board) → misplaced b 1 ≡ false → b.atoms ≡ 0
unfolding misplaced
placed-count b m = go (eqb b.atoms 0) refl m
  where
    go : (t : Bool) → eqb b.atoms 0 ≡ t → cond t false true ≡ false → b.atoms ≡ 0
    go true e h = eqb-true b.atoms 0 e
    go false e h = absurd (true≢false h)

-- .. and every other record after it
pub placed-other : (b : Board) (kind : ℕ) → eqb kind 1 ≡ false → misplaced b kind ≡ false → b.atoms ≡ 0 → ⊥
unfolding misplaced
placed-other b kind k m e = true≢false (simp (k, e) at m)

-- a hypothesis comes before the rules
pub placed-hypothesis : (b : Board) → misplaced b 2 ≡ false → is_empty b.rules ≡ true
unfolding misplaced
placed-hypothesis b m = go (eqb b.atoms 0) m
  where
    go : (t : Bool) → cond t true (not (is_empty b.rules)) ≡ false → is_empty b.rules ≡ true
    go true h = absurd (true≢false h)
    go false h = not-false (is_empty b.rules) h
