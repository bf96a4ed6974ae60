-- What loading hands back, from what the loader's parts say; and the yes-or-no on a table that some file loads to. Assumes nothing.
use mathlib.Core.Path.{◌≡◌, refl, sym, ap, ◌∙◌}
use Prim.Native.Nat.{ℕ, ◌<◌}
use native.Mathlib.Omega.{arith}
use mathlib.Core.Bool.{Bool, false, ◌&&◌, ◌||◌}
use mathlib.Core.List.{List}
use lib.Dec.{T, eqb}
use borrow.Author.Tests.{lt-leb}
use Rattle.sets.specs.Lists.{any, all}
use Rattle.sets.proofs.Laws.Lists.{any_cong, all_cong}
use Rattle.sets.proofs.Laws.Tests.{true_of_T}
use Rattle.std.specs.Prelude.{Result, Ok, Err}
use Rattle.std.specs.Result.{result_unwrap_or}
use Rattle.board.specs.Answers.{FileAnswer, accepted, refused_at, Answer, granted, refused, file_answer_means}
use Rattle.board.specs.Board.{Board, declarations, is_state_of}
use Rattle.board.specs.Holds.{rule_holds, holds, in_state}
use Rattle.board.specs.Load.{load}
use Rattle.board.specs.Table.{table_in, table_of, zero_table, board_of, is_table}
use Rattle.board.specs.EntryPoints.{outcome_of, table_answer, LoadsAs, yes_or_no}
use Rattle.board.proofs.Laws.Accepted.{accepted-bodies-below}
use Rattle.board.proofs.Laws.Holds.{holds-step}
use Rattle.board.proofs.Laws.Table.{is_table-board}
use Rattle.board.specs.declared.RefusedAt.{RefusedAt}
use Rattle.board.specs.declared.Table.{Table}

-- the table that loading a file hands back is that of the board it was accepted with
pub table_in-accepted : (file : List ℕ) (b : Board) → load file ≡ accepted b → table_in (load file) ≡ table_of b
unfolding table_in
table_in-accepted file b e = rw e

-- .. and that of a refused file "the table whose every field is zero"
pub table_in-refused : (file : List ℕ) (number place : ℕ) → load file ≡ refused_at number place → table_in (load file) ≡ zero_table
unfolding table_in
table_in-refused file number place e = rw e

-- what is answered of a load says what the load came to: a board was accepted, and the table is its ..
pub accepted-of : (answer : FileAnswer Board) (t : Table) → accepted t ≡ table_answer answer → (b : Board) × (answer ≡ accepted b) × (t ≡ table_of b)
unfolding table_answer
accepted-of (accepted b) t e = (b, refl, cc)
accepted-of (refused_at number place) t e = let z : ◌≡◌ {A = ℕ} 0 1 = cc in absurd (omega arith)

-- .. or the file was refused
pub refused_at-of : (answer : FileAnswer Board) (number place : ℕ) → refused_at number place ≡ table_answer answer → answer ≡ refused_at number place
unfolding table_answer
refused_at-of (accepted b) number place e = let z : ◌≡◌ {A = ℕ} 0 1 = cc in absurd (omega arith)
refused_at-of (refused_at n p) number place e = cc

-- with the zero table in the place of what a refusal does not have, it is the table that document 01 hands back
pub table_in-of : (answer : FileAnswer Board) (r : Result Table RefusedAt) → file_answer_means r ≡ table_answer answer → result_unwrap_or r zero_table ≡ table_in answer
unfolding table_in table_answer
table_in-of (accepted b) (Ok t) e = cc
table_in-of (accepted b) (Err r) e = let z : ◌≡◌ {A = ℕ} 0 1 = cc in absurd (omega arith)
table_in-of (refused_at number place) (Ok t) e = let z : ◌≡◌ {A = ℕ} 0 1 = cc in absurd (omega arith)
table_in-of (refused_at number place) (Err r) e = refl

-- what is answered by itself says as much of the board: one was accepted ..
pub accepted-outcome : (answer : FileAnswer Board) → accepted tt ≡ outcome_of answer → (b : Board) × (answer ≡ accepted b)
unfolding outcome_of
accepted-outcome (accepted b) e = (b, refl)
accepted-outcome (refused_at number place) e = let z : ◌≡◌ {A = ℕ} 0 1 = cc in absurd (omega arith)

-- .. or the file was refused
pub refused_at-outcome : (answer : FileAnswer Board) (number place : ℕ) → refused_at number place ≡ outcome_of answer → answer ≡ refused_at number place
unfolding outcome_of
refused_at-outcome (accepted b) number place e = let z : ◌≡◌ {A = ℕ} 0 1 = cc in absurd (omega arith)
refused_at-outcome (refused_at n p) number place e = cc

-- a refusal of the right number and place
pub refuses_loads : (answer : FileAnswer Board) (r : Result Table RefusedAt) (number place : ℕ) → answer ≡ refused_at number place
    → LoadsAs (refused_at number place) r → LoadsAs answer r
refuses_loads answer r number place e f = rw e f

-- the table of the board that was accepted
pub accepts_loads : (answer : FileAnswer Board) (b : Board) (t : Table) → answer ≡ accepted b → t ≡ table_of b → LoadsAs answer (Ok t)
unfolding table_answer
accepts_loads answer b t e s = ap accepted s ∙ sym (ap table_answer e)

-- ---- the yes-or-no, as its two sentences stand

-- the answer is yes
unfoldable pub is_yes : Answer Bool → Bool
is_yes (granted t) = t
is_yes (refused number) = false

module _ (t : Table) (k : T (is_table t)) (s : List ℕ) (st : T (is_state_of (declarations (board_of t)) s)) where
  -- past the refusals, the answer is whether the atom holds
  pub yes_or_no-holds : (a : ℕ) → a < t.atoms → yes_or_no t s a ≡ granted (holds (in_state s) (board_of t) a)
  unfolding yes_or_no
  yes_or_no-holds a l = simp (true_of_T (is_table t) k, true_of_T (is_state_of (declarations (board_of t)) s) st, lt-leb t.atoms a l)

  -- "An atom holds in a board state if it is chosen or if one of its rules holds; a rule holds if all its body atoms hold."
  pub yes_or_no_sentences : (a : ℕ) → a < t.atoms
      → is_yes (yes_or_no t s a) ≡ (in_state s a || any (λ r. eqb r.head a && all (λ b. is_yes (yes_or_no t s b)) r.body) (board_of t).rules)
  unfolding is_yes board_of rule_holds
  yes_or_no_sentences a l =
      let b = is_table-board t k in
      ap is_yes (yes_or_no-holds a l)
      ∙ holds-step (in_state s) (board_of t) a (accepted-bodies-below b)
      ∙ ap (◌||◌ (in_state s a)) (any_cong (board_of t).rules (λ r m.
      ap (◌&&◌ (eqb r.head a)) (all_cong r.body (λ x n.
      sym (ap is_yes (yes_or_no-holds x (omega (arith, (b.rule r m).body_below x n, (b.rule r m).head_below))))))))
