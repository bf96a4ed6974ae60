-- The steps of loading: what `load_from` gives, by what stands at the place. Assumes nothing.
use Prim.Native.Nat.{ℕ, suc}
use mathlib.Core.Path.{◌≡◌}
use mathlib.Core.Bool.{true, false}
use mathlib.Core.List.{List}
use lib.Dec.{eqb-suc-zero}
use Rattle.board.specs.Answers.{accepted, refused_at}
use Rattle.board.specs.Board.{Board}
use Rattle.board.specs.File.{Found, read_record}
use Rattle.board.specs.Load.{misplaced_at, first_failing, field_checks, taking, is_finish, at_the_end, passing, checked, load_from}

module _ (n : ℕ) (file : List ℕ) (at : ℕ) (b : Board) where
  -- a record in the wrong place
  pub load-misplaced : misplaced_at file at b ≡ true → load_from (suc n) file at b ≡ refused_at 3 at
  unfolding load_from passing checked
  load-misplaced h = simp (h, load_from, passing, checked)

  -- no record to be read
  pub load_unread : (number place : ℕ) → misplaced_at file at b ≡ false → read_record file at ≡ refused_at number place
      → load_from (suc n) file at b ≡ refused_at number place
  unfolding load_from passing checked
  load_unread number place h r = simp (h, r, load_from, passing, checked)

  module _ (r : Found) (h : misplaced_at file at b ≡ false) (e : read_record file at ≡ accepted r) where
    -- a field check fails
    pub load_failing : (number : ℕ) → first_failing (field_checks b r.found) ≡ suc number → load_from (suc n) file at b ≡ refused_at (suc number) at
    unfolding load_from passing checked
    load_failing number f = simp (h, e, f, eqb-suc-zero, load_from, passing, checked)

    -- the end record
    pub load-finish : first_failing (field_checks b r.found) ≡ 0 → is_finish r.found ≡ true → load_from (suc n) file at b ≡ at_the_end file r.next b
    unfolding load_from passing checked
    load-finish f g = simp (h, e, f, g, load_from, passing, checked)

    -- any other record
    pub load-next : first_failing (field_checks b r.found) ≡ 0 → is_finish r.found ≡ false
        → load_from (suc n) file at b ≡ load_from n file r.next (taking b r.found)
    unfolding load_from passing checked
    load-next f g = simp (h, e, f, g, load_from, passing, checked)
