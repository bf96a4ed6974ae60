-- Under C names 0 is acceptance: no refusal has the number 0, whichever call answers it. For the run see `Endings`. Assumes nothing.
use Prim.Native.Nat.{ℕ, zero, suc, ◌≤◌}
use native.Mathlib.Omega.{arith}
use mathlib.Core.Path.{◌≡◌, refl, sym, ap, ◌∙◌}
use mathlib.Core.Bool.{Bool, true, false, not, ◌||◌, cond}
use mathlib.Core.List.{List, [], ◌∷◌}
use lib.Dec.{T, eqb, leb, ltb}
use lib.ListN.{length}
use lib.Pow.{are_bytes}
use Rattle.sets.specs.Lists.{any, ascending}
use Rattle.board.specs.Answers.{FileAnswer, accepted, refused_at, Answer, granted, refused}
use Rattle.board.specs.Board.{Board, declarations, is_state_of}
use Rattle.board.specs.Load.{load}
use Rattle.board.specs.Table.{table_in, board_of, is_table}
use Rattle.board.specs.EntryPoints.{yes_or_no}
use Rattle.board.specs.declared.Table.{Table}
use Rattle.board.proofs.Promise.{load-number, accepted_iff, table_in-accepted, board_of-table_of}
use Rattle.search.specs.Order.{Line}
use Rattle.search.specs.Search.{Limits, low}
use Rattle.search.specs.Store.{search_of, well_formed}
use Rattle.search.specs.EntryPoints.{most_asked, open_question, line_weight, thousandths, share_of}
use Rattle.search.specs.declared.Search.{Search as Stored}
use Rattle.firmware.specs.Answers.{file_number, load_answer, number_of, total_of}

-- where the number is 0, something was granted
abbrev pub Tells : {A : Type 0} → Answer A → Type 0
Tells {A} answer = number_of answer ≡ 0 → (x : A) × (answer ≡ granted x)

tells-granted : {A : Type 0} (x : A) → Tells (granted x)
tells-granted x e = (x, refl)

tells-refused : {A : Type 0} (number : ℕ) → 1 ≤ number → Tells {A = A} (refused number)
unfolding number_of
tells-refused number h e = absurd (omega arith)

-- of two answers, by a test
tells_by : {A : Type 0} (t : Bool) (a b : Answer A) → Tells a → Tells b → Tells (cond t a b)
tells_by true a b f g = f
tells_by false a b f g = g

-- loading: the file was accepted, and the table handed back holds its board
pub number-load : (file : List ℕ) → T (are_bytes file) → (load_answer (load file)).number ≡ 0 → load file ≡ accepted (board_of (load_answer (load file)).table)
unfolding load_answer file_number
number-load file bytes = go (load file) refl
  where
    go : (answer : FileAnswer Board) → load file ≡ answer → file_number answer ≡ 0 → load file ≡ accepted (board_of (table_in (load file)))
    go (accepted b) q e = q ∙ ap accepted (sym (ap board_of (table_in-accepted file b q) ∙ board_of-table_of ((accepted_iff b).1 (file, bytes, q))))
    go (refused_at number place) q e = absurd (omega (arith, load-number file number place q))

-- opening
pub number_open : (t : Table) (question : List ℕ) → Tells (open_question t question)
unfolding open_question
number_open t question =
    tells_by (not (is_table t)) _ _ (tells-refused 20 (omega arith))
    (tells_by (eqb (length question) 0 || ltb most_asked (length question)) _ _ (tells-refused 21 (omega arith))
    (tells_by (any (leb t.atoms) question) _ _ (tells-refused 22 (omega arith))
    (tells_by (not (ascending question)) _ _ (tells-refused 23 (omega arith)) (tells-granted _))))

-- the share
pub number_share : (limits : Limits) (t : Table) (s : Stored) (line : ℕ) → Tells (share_of limits t s line)
unfolding share_of line_weight thousandths number_of
number_share limits t s line =
    tells_by (not (is_table t)) _ _ (tells-refused 20 (omega arith))
    (tells_by (not (well_formed limits (board_of t) s)) _ _ (tells-refused 34 (omega arith)) (part (line_weight (search_of s).lines line) (weighs (search_of s).lines line)))
  where
    weighs : (lines : List Line) (line : ℕ) → Tells (line_weight lines line)
    weighs [] line = tells-refused 36 (omega arith)
    weighs (l ∷ rest) zero = tells-refused 36 (omega arith)
    weighs (l ∷ rest) (suc zero) = tells-granted l.weight
    weighs (l ∷ rest) (suc (suc line)) = weighs rest (suc line)

    part : (weight : Answer ℕ) → Tells weight → Tells (thousandths (low (search_of s)) weight)
    part (granted weight) f = tells-granted _
    part (refused number) f = λ e. let (x, q) = f e in absurd (let z : ◌≡◌ {A = ℕ} 0 1 = cc in omega arith)

-- the yes-or-no
pub number_yes_or_no : (t : Table) (state : List ℕ) (atom : ℕ) → Tells (yes_or_no t state atom)
unfolding yes_or_no
number_yes_or_no t state atom =
    tells_by (not (is_table t)) _ _ (tells-refused 20 (omega arith))
    (tells_by (not (is_state_of (declarations (board_of t)) state)) _ _ (tells-refused 25 (omega arith))
    (tells_by (leb t.atoms atom) _ _ (tells-refused 22 (omega arith)) (tells-granted _)))

-- W
pub number-total : (t : Table) → Tells (total_of t)
unfolding total_of
number-total t = tells_by (not (is_table t)) _ _ (tells-refused 20 (omega arith)) (tells-granted _)
