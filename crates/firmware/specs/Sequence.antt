-- Demand 3 and what 32 says, under C names: of a question that `vilthomm_open` accepts and any runs by `vilthomm_run` after it, each on the search that the one before handed back,
-- in what these calls hand back and nothing else. Assumes nothing.
use Rattle.std.specs.Prelude.{ℕ, zero, suc, ◌≡◌, List, [], ◌∷◌, map}
use Rattle.board.specs.Table.{board_of}
use Rattle.board.specs.declared.Table.{Table}
use Rattle.search.specs.Search.{bench, Ending, done, more, stopped}
use Rattle.search.specs.EntryPoints.{open_question, run_search}
use Rattle.search.specs.EntryPoints as entry
use Rattle.search.specs.declared.Search.{Search as Stored}
use Rattle.bounds.specs.Demand3.{Right, Claim}
use Rattle.bounds.specs.Overlap.{OverlapReported}
use Rattle.firmware.specs.Answers.{open_answer, run_answer}
use Rattle.firmware.specs.declared.RunAnswer.{RunAnswer}

-- how a caller reads the ending of a run: 0 is done, 1 is more, any other the refusal of that number
unfoldable pub read_ending : ℕ → Ending
read_ending zero = done
read_ending (suc zero) = more
read_ending (suc (suc n)) = stopped (suc (suc n))

-- .. and what it hands back
unfoldable pub read_answer : RunAnswer → entry.RunAnswer
read_answer r = record { search = r.search; ending = read_ending r.ending; steps = r.steps; low = r.low; high = r.high }

-- what `vilthomm_run` hands back, call by call, each on the search that the one before handed back
unfoldable pub calls : Table → Stored → List ℕ → List RunAnswer
calls t s [] = []
calls t s (allowance ∷ rest) =
    let r = run_answer (run_search bench t s allowance) in
    r ∷ calls t r.search rest

-- the claim P, where `vilthomm_open` answers 0, of the board that the table holds and of what the calls after it hand back
unfoldable pub AfterCalls : Claim → Type 0
AfterCalls P =
    (t : Table) (question : List ℕ) → (open_answer (open_question t question)).number ≡ 0
    → (allowances : List ℕ)
    → let from = (open_answer (open_question t question)).search in
    P (board_of t) question from (map read_answer (calls t from allowances))

-- Demand 3, so claimed
unfoldable pub Demand3InC : Type 0
Demand3InC = AfterCalls Right

-- .. and that 32 is answered only where two different minimal explanations are compatible
unfoldable pub OverlapInC : Type 0
OverlapInC = AfterCalls OverlapReported
