-- The number of a run's ending tells the ending: no refusal of a run has the number 0 or 1, since a run is refused by 20, 31, 32, 33 or 34 alone.
-- Assumes nothing.
use Prim.Native.Nat.{ℕ, zero, suc, ◌≤◌}
use native.Mathlib.Omega.{arith}
use mathlib.Core.Path.{◌≡◌, refl}
use mathlib.Core.Bool.{Bool, true, false, not, cond}
use Rattle.board.specs.Table.{board_of, is_table}
use Rattle.board.specs.declared.Table.{Table}
use Rattle.search.specs.Search.{Limits, Ending, done, more, stopped, run}
use Rattle.search.specs.Store.{search_of, well_formed}
use Rattle.search.specs.EntryPoints.{not_run, ran_on, run_search}
use Rattle.search.specs.declared.Search.{Search as Stored}
use Rattle.search.proofs.Laws.Search.Runs.{run_stops}
use Rattle.firmware.specs.Answers.{ending_number, run_answer}
use Rattle.firmware.specs.Sequence.{read_ending, read_answer}

-- a refusal that a run may end with has a number that is neither 0 nor 1
abbrev Refuses : Ending → Type 0
Refuses ending = (number : ℕ) → ending ≡ stopped number → 20 ≤ number

-- a run's refusals: 20, 34 and those of a step
run_refuses : (limits : Limits) (t : Table) (s : Stored) (allowance : ℕ) → Refuses (run_search limits t s allowance).ending
unfolding run_search not_run ran_on
run_refuses limits t s allowance = go (is_table t) (well_formed limits (board_of t) s)
  where
    by : (known : ℕ) → 20 ≤ known → Refuses (stopped known)
    by known h number e = let same : known ≡ number = cc in omega arith

    go : (p q : Bool)
        → Refuses (cond (not p) (not_run s 20) (cond (not q) (not_run s 34) (ran_on t s (run limits (board_of t) allowance (search_of s))))).ending
    go true true = λ number e. omega (arith, (run_stops limits (board_of t) allowance (search_of s) number e).0)
    go true false = by 34 (omega arith)
    go false q = by 20 (omega arith)

-- the number of an ending is read as that ending
ending-read : (ending : Ending) → Refuses ending → read_ending (ending_number ending) ≡ ending
unfolding read_ending ending_number
ending-read done r = refl
ending-read more r = refl
ending-read (stopped zero) r = absurd (omega (arith, r 0 refl))
ending-read (stopped (suc zero)) r = absurd (omega (arith, r 1 refl))
ending-read (stopped (suc (suc n))) r = refl

-- what a run hands back under its C name is read as what it answers
pub run-read : (limits : Limits) (t : Table) (s : Stored) (allowance : ℕ)
    → read_answer (run_answer (run_search limits t s allowance)) ≡ run_search limits t s allowance
unfolding read_answer run_answer
run-read limits t s allowance =
    let r = run_search limits t s allowance in
    let same = ending-read r.ending (run_refuses limits t s allowance) in
    λ i. record { search = r.search; ending = same i; steps = r.steps; low = r.low; high = r.high }
