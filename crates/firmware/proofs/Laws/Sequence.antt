-- Demand 3 and what 32 says, under C names, proved. Assumes nothing.
use Prim.Native.Nat.{ℕ}
use mathlib.Core.Path.{◌≡◌, refl, ap₂}
use mathlib.Core.List.{List, [], ◌∷◌, map}
use Rattle.board.specs.Answers.{granted}
use Rattle.board.specs.Table.{board_of}
use Rattle.board.specs.declared.Table.{Table}
use Rattle.search.specs.Search.{Search, bench}
use Rattle.search.specs.Store.{stored_of}
use Rattle.search.specs.EntryPoints.{RunAnswer, open_question, opened_search, run_search}
use Rattle.search.specs.declared.Search.{Search as Stored}
use Rattle.bounds.specs.Demand3.{runs, Right, Claim}
use Rattle.bounds.specs.Overlap.{OverlapReported}
use Rattle.bounds.proofs.Demand3.{demand3_table}
use Rattle.bounds.proofs.Overlap.{overlap_table}
use Rattle.firmware.specs.Answers.{open_answer, run_answer}
use Rattle.firmware.specs.Sequence.{read_answer, calls, AfterCalls, Demand3InC, OverlapInC}
use Rattle.firmware.proofs.Laws.Endings.{run-read}
use Rattle.firmware.proofs.Laws.Numbers.{number_open}

-- the calls are read as the definition's runs
calls-read : (t : Table) (s : Stored) (allowances : List ℕ) → map read_answer (calls t s allowances) ≡ runs bench t s allowances
unfolding calls runs run_answer
calls-read t s [] = refl
calls-read t s (allowance ∷ rest) =
    ap₂ {C = List RunAnswer} (λ r rs. r ∷ rs) (run-read bench t s allowance) (calls-read t (run_search bench t s allowance).search rest)

-- what always holds of the runs holds of the calls
after-calls : (P : Claim)
    → ((t : Table) (question : List ℕ) (s : Search) → open_question t question ≡ granted s → (allowances : List ℕ)
    → P (board_of t) question (stored_of s) (runs bench t (stored_of s) allowances)) → AfterCalls P
unfolding AfterCalls open_answer opened_search
after-calls P always t question accepted allowances =
    let (s, on) = number_open t question accepted in
    rw (on, calls-read) (always t question s on allowances)

pub demand3_in_c : Demand3InC
unfolding Demand3InC
demand3_in_c = after-calls Right demand3_table

pub overlap_in_c : OverlapInC
unfolding OverlapInC
overlap_in_c = after-calls OverlapReported overlap_table
