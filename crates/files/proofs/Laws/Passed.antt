-- One record of a file as the loader takes it: when it passes, and what follows for the loading. Assumes nothing.
use mathlib.Core.Path.{◌≡◌, refl, ◌∙◌}
use Prim.Native.Nat.{ℕ, zero, suc}
use native.Mathlib.Omega.{arith}
use mathlib.Core.Bool.{Bool, true, false, cond}
use mathlib.Core.List.{List}
use lib.Dec.{ltb}
use lib.ListN.{length}
use Rattle.board.specs.Sizes.{most_w}
use Rattle.board.specs.Answers.{FileAnswer, accepted, refused_at}
use Rattle.board.specs.Board.{Board, W}
use Rattle.board.specs.File.{Found, read_record}
use Rattle.board.specs.Load.{misplaced_at, first_failing, field_checks, is_finish, at_the_end, load_from}
use Rattle.board.specs.EntryPoints.{outcome_of}
use Rattle.files.specs.Private.Taking.{field_refusal, checked_record, passed_record, ending}
use Rattle.board.proofs.Laws.Load.Steps.{load-misplaced, load_unread, load_failing}

-- what a record that passes has: it may stand where it stands, it is read there, and unless it is the end no field check fails
pub record Passes (file : List ℕ) (at : ℕ) (b : Board) (r : Found) : Type 0 where
  pub placed : misplaced_at file at b ≡ false
  pub read : read_record file at ≡ accepted r
  pub checks : is_finish r.found ≡ false → first_failing (field_checks b r.found) ≡ 0

module _ (file : List ℕ) (at : ℕ) (b : Board) where
  -- what stands in a wrong place does not pass
  pub passed-misplaced : misplaced_at file at b ≡ true → passed_record file at b ≡ refused_at 3 at
  unfolding passed_record
  passed-misplaced m = simp (m, passed_record)

  -- nor what cannot be read
  pub passed_unread : (number place : ℕ) → misplaced_at file at b ≡ false → read_record file at ≡ refused_at number place → passed_record file at b ≡ refused_at number place
  unfolding passed_record checked_record
  passed_unread number place m q = simp (m, q, passed_record)

  module _ (r : Found) (m : misplaced_at file at b ≡ false) (q : read_record file at ≡ accepted r) where
    -- nor a record that a field check fails
    pub passed_failing : (number : ℕ) → field_refusal b r.found ≡ number → (number ≡ 0 → ⊥) → passed_record file at b ≡ refused_at number at
    unfolding passed_record checked_record
    passed_failing zero f z = absurd (z refl)
    passed_failing (suc number) f z = simp (m, q, f, passed_record, checked_record)

    -- any other does
    pub passed-passing : field_refusal b r.found ≡ 0 → passed_record file at b ≡ accepted r
    unfolding passed_record checked_record
    passed-passing f = simp (m, q, f, passed_record, checked_record)

  -- the answer by the field checks' number, and by the test of the place
  abbrev checked : ℕ → Found → FileAnswer Found
  checked n s = elim n [ zero ↦ accepted s | suc number ↦ refused_at (suc number) at ]

  abbrev tested : Bool → FileAnswer Found
  tested t = elim t [ true ↦ refused_at 3 at | false ↦ checked_record at b (read_record file at) ]

  -- a record that passes, by what was asked of it
  pub passed-accepted : (r : Found) → passed_record file at b ≡ accepted r → Passes file at b r
  unfolding passed_record checked_record field_refusal
  passed-accepted r = placing (misplaced_at file at b) refl
    where
      checking : (s : Found) → misplaced_at file at b ≡ false → read_record file at ≡ accepted s → (n : ℕ) → field_refusal b s.found ≡ n
          → checked n s ≡ accepted r → Passes file at b r
      checking s m q zero f e =
          let same : s ≡ r = cc in
          record { placed = m; read = rw same at q; checks = λ g. rw g at (rw same at f) }
      checking s m q (suc n) f e = absurd (let z : ◌≡◌ {A = ℕ} 0 1 = cc in omega arith)

      reading : misplaced_at file at b ≡ false → (a : FileAnswer Found) → read_record file at ≡ a → checked_record at b a ≡ accepted r → Passes file at b r
      reading m (refused_at number place) q e = absurd (let z : ◌≡◌ {A = ℕ} 0 1 = cc in omega arith)
      reading m (accepted s) q e = checking s m q (field_refusal b s.found) refl e

      placing : (t : Bool) → misplaced_at file at b ≡ t → tested t ≡ accepted r → Passes file at b r
      placing true m e = absurd (let z : ◌≡◌ {A = ℕ} 0 1 = cc in omega arith)
      placing false m e = reading m (read_record file at) refl e

  -- a record that does not ends the loading
  pub passed-refused : (number place : ℕ) → passed_record file at b ≡ refused_at number place → (n : ℕ) → load_from (suc n) file at b ≡ refused_at number place
  unfolding passed_record checked_record field_refusal
  passed-refused number place e n = placing (misplaced_at file at b) refl e
    where
      failing : (t : Bool) (k m : ℕ) → cond t 0 k ≡ suc m → k ≡ suc m
      failing true k m f = absurd (omega arith)
      failing false k m f = f

      checking : (s : Found) → misplaced_at file at b ≡ false → read_record file at ≡ accepted s → (k : ℕ) → field_refusal b s.found ≡ k
          → checked k s ≡ refused_at number place → load_from (suc n) file at b ≡ refused_at number place
      checking s m q zero f e = absurd (let z : ◌≡◌ {A = ℕ} 0 1 = cc in omega arith)
      checking s m q (suc k) f e = load_failing n file at b s m q k (failing (is_finish s.found) _ k f) ∙ (cc)

      reading : misplaced_at file at b ≡ false → (a : FileAnswer Found) → read_record file at ≡ a → checked_record at b a ≡ refused_at number place
          → load_from (suc n) file at b ≡ refused_at number place
      reading m (refused_at k p) q e = load_unread n file at b k p m q ∙ (cc)
      reading m (accepted s) q e = checking s m q (field_refusal b s.found) refl e

      placing : (t : Bool) → misplaced_at file at b ≡ t → tested t ≡ refused_at number place
          → load_from (suc n) file at b ≡ refused_at number place
      placing true m e = load-misplaced n file at b m ∙ (cc)
      placing false m e = reading m (read_record file at) refl e

-- ---- the end record

-- what is answered of a load without its board says whether the file was refused ..
pub outcome-refused : (answer : FileAnswer Board) (number place : ℕ) → refused_at number place ≡ outcome_of answer → answer ≡ refused_at number place
unfolding outcome_of
outcome-refused (accepted b) number place e = absurd (let z : ◌≡◌ {A = ℕ} 0 1 = cc in omega arith)
outcome-refused (refused_at n p) number place e = cc

-- .. and an end record's is the board so far, where it is no refusal
module _ (file : List ℕ) (at next : ℕ) (b : Board) where
  abbrev ended : Bool → Bool → FileAnswer Board
  ended heavy longer = cond heavy (refused_at 8 at) (cond longer (refused_at 3 next) (accepted b))

  pub ending-accepted : accepted tt ≡ outcome_of (ending file at next b) → ending file at next b ≡ accepted b
  unfolding ending at_the_end outcome_of
  ending-accepted = go (ltb most_w (W b)) (ltb next (length file))
    where
      go : (heavy longer : Bool) → accepted tt ≡ outcome_of (ended heavy longer) → ended heavy longer ≡ accepted b
      go true longer e = absurd (let z : ◌≡◌ {A = ℕ} 0 1 = cc in omega arith)
      go false true e = absurd (let z : ◌≡◌ {A = ℕ} 0 1 = cc in omega arith)
      go false false e = refl
