-- `load` meets its contract. The loop's invariant is `Progress`: the board read so far stands in the table, what is known of it is, and what
-- is left to load is what `load_from` gives from the next place on. The measure is what is left of the file. Assumes nothing.
use native.Mathlib.Omega.{arith}
use mathlib.Core.Path.{◌≡◌, refl, sym, ap, ◌∙◌}
use mathlib.Core.Bool.{false}
use Prim.Native.Nat.{ℕ, ◌-◌, ◌<◌}
use mathlib.Core.List.{List}
use lib.Dec.{T}
use lib.Pow.{are_bytes}
use lib.ListN.{length}
use Rattle.std.proofs.Common.{rules}
use Rattle.std.specs.Prelude.{Ok, Err}
use Rattle.std.proofs.lemmas.Result.{err_from_is_err_and}
use Rattle.board.specs.Answers.{accepted}
use Rattle.board.specs.File.{Record, Found, count, hypothesis, rule}
use Rattle.board.proofs.Laws.File.Bytes.{are_bytes_of}
use Rattle.board.specs.Load.{no_board, first_failing, field_checks, taking, is_finish}
use Rattle.board.proofs.Laws.Load.Checks.{rule-filled_first}
use Rattle.board.proofs.Laws.Load.Loaded.{begun_rules, begun_atoms}
use Rattle.files.proofs.Laws.Passed.{Passes, passed-accepted, outcome-refused, ending-accepted}
use Rattle.files.proofs.Laws.Progress.{Progress, progress_start, ends_refused, ends_finished, goes_further, next-sound, goes_on, room-hypotheses, room-last, room-rules}
use Rattle.board.proofs.Laws.Load.Room.{room-after-hypothesis, room-after-rule}
use Rattle.board.specs.Table.{table_of}
use Rattle.board.proofs.Laws.EntryPoints.{table_in-of}
use Rattle.board.proofs.Laws.Table.Taking.{table_of-count, table_of-hypothesis, table_of-rule}
use Rattle.board.proofs.Laws.Load.Passes.{so_far}
use Rattle.files.specs.Private.Taking.{SeenAfter}
use Rattle.board.specs.EntryPoints.{record_means, read_means, table_answer}
use Rattle.board.specs.declared.Table.{Table}
use Rattle.files.specs.declared.checks.Seen.{Seen}
use Rattle.files.proofs.load.load.Goals as goal
use Rattle.files.proofs.load.load.Goals.{In-Ok, In-Hypothesis, In-Rule, in-Count, in-Hypothesis, in-Rule}

pub loop-found-init : goal.loop-found-init
unfolding no_board
loop-found-init c = rw c.zero-t.ensures (progress_start _ _ c.of_atoms-seen.ensures)

pub returns-in_default-clause-answers : goal.returns-in_default-clause-answers
unfolding read_means table_answer
returns-in_default-clause-answers c =
    let p = c.loop-found.invariant in
    let passed = c.passed_record-answer.ensures _ p.known in
    let told = ap read_means c.unwrap_err.ensures in
    rw (ends_refused p _ _ (sym passed ∙ told))

-- ---- a record that passes

module _ (k : In-Ok) where
  abbrev read : Found
  read = record { found = record_means k.in-Ok.found.record; next = k.in-Ok.found.next }

  passes : Passes k.args.file.now k.loop-found.at k.loop-found.invariant.board read
  unfolding read_means
  passes =
      let p = k.loop-found.invariant in
      passed-accepted _ _ _ read (sym (k.passed_record-answer.ensures _ p.known) ∙ ap read_means k.in-Ok.is)

  further : length k.args.file.now - read.next < length k.args.file.now - k.loop-found.at
  further = omega (arith, goes_further k.loop-found.invariant read passes)

  bytes : T (are_bytes k.args.file.now)
  bytes = are_bytes_of k.args.file.now (λ i. omega (arith, k.type_inv.file i))

  module _ (r : Record) (same : read.found ≡ r) (unfinished : is_finish r ≡ false) where
    checks : first_failing (field_checks k.loop-found.invariant.board r) ≡ 0
    checks = rw same at (passes.checks (rw same unfinished))

    sound : T (so_far (taking k.loop-found.invariant.board r))
    sound = rw same at (next-sound k.loop-found.invariant read passes bytes (rw same unfinished))

    again : (t' : Table) (seen' : Seen) → t' ≡ table_of (taking k.loop-found.invariant.board r) → SeenAfter k.loop-found.seen read.found seen'
        → Progress k.args.file.now t' seen' read.next
    again t' seen' table known =
        let p = k.loop-found.invariant in
        let goes : is_finish read.found ≡ false = rw same unfinished in
        goes_on p read passes bytes goes t' seen' (rw same table) (known p.board (begun_atoms p.board p.begun) p.known (passes.checks goes))

  -- a hypothesis
  module _ (d a w : ℕ) (same : read.found ≡ hypothesis d a w) where
    unfinished : is_finish (hypothesis d a w) ≡ false
    unfolding is_finish
    unfinished = refl

    hypothesis-fits : length k.loop-found.invariant.board.hypotheses < 128
    hypothesis-fits = room-after-hypothesis k.loop-found.invariant.board d a w (sound _ same unfinished)

    hypothesis-room : k.loop-found.t.hypotheses < 128
    unfolding table_of
    hypothesis-room = omega (arith, hypothesis-fits, ap (λ (u : Table). u.hypotheses) k.loop-found.invariant.table)

  -- a rule
  module _ (head : ℕ) (places : List ℕ) (same : read.found ≡ rule head places) where
    open_ended : is_finish (rule head places) ≡ false
    unfolding is_finish
    open_ended = refl

    rule_fits : length k.loop-found.invariant.board.rules < 256
    rule_fits = room-after-rule k.loop-found.invariant.board head places (sound _ same open_ended)

    rule-room : k.loop-found.t.rules < 256
    unfolding table_of
    rule-room = omega (arith, rule_fits, ap (λ (u : Table). u.rules) k.loop-found.invariant.table)

-- what was read is a hypothesis, or a rule
is_hypothesis_lem : (c : In-Hypothesis) → record_means c.in-Ok.found.record ≡ hypothesis c.in-Hypothesis.d c.in-Hypothesis.a c.in-Hypothesis.w
unfolding record_means
is_hypothesis_lem c = ap record_means c.in-Hypothesis.is

is_rule : (c : In-Rule) → record_means c.in-Ok.found.record ≡ rule c.in-Rule.head c.in-Rule.places
unfolding record_means
is_rule c = ap record_means c.in-Rule.is

pub bounds-t-i : goal.bounds-t-i
bounds-t-i c = hypothesis-room (goal.at.bounds-t-i c).In-Ok _ _ _ (is_hypothesis_lem c)

pub offset_bounds-t-i : goal.offset_bounds-t-i
offset_bounds-t-i c = omega (arith, hypothesis-room (goal.at.offset_bounds-t-i c).In-Ok _ _ _ (is_hypothesis_lem c))

pub bounds-t-i-in-Hypothesis : goal.bounds-t-i-in-Hypothesis
bounds-t-i-in-Hypothesis c = hypothesis-room (goal.at.bounds-t-i-in-Hypothesis c).In-Ok _ _ _ (is_hypothesis_lem c)

pub bounds-t-i-in-Hypothesis-2 : goal.bounds-t-i-in-Hypothesis-2
bounds-t-i-in-Hypothesis-2 c = hypothesis-room (goal.at.bounds-t-i-in-Hypothesis-2 c).In-Ok _ _ _ (is_hypothesis_lem c)

pub overflow_add-t : goal.overflow_add-t
overflow_add-t c = omega (arith, hypothesis-room (goal.at.overflow_add-t c).In-Ok _ _ _ (is_hypothesis_lem c))

pub with-seen-requires : goal.with-seen-requires
with-seen-requires c = (room-last c.loop-found.invariant, room-rules c.loop-found.invariant)

pub bounds-t-i-in-Rule : goal.bounds-t-i-in-Rule
bounds-t-i-in-Rule c = rule-room (goal.at.bounds-t-i-in-Rule c).In-Ok _ _ (is_rule c)

pub put-requires : goal.put-requires
put-requires c = rule-room (goal.at.put-requires c).In-Ok _ _ (is_rule (goal.at.put-requires c).In-Rule)

pub overflow_add-t-in-Rule : goal.overflow_add-t-in-Rule
overflow_add-t-in-Rule c = omega (arith, rule-room (goal.at.overflow_add-t-in-Rule c).In-Ok _ _ (is_rule (goal.at.overflow_add-t-in-Rule c).In-Rule))

pub ended-requires : goal.ended-requires
ended-requires c = room-hypotheses c.loop-found.invariant

pub returns-in_err-ended-in-End-clause-answers : goal.returns-in_err-ended-in-End-clause-answers
unfolding record_means is_finish table_answer
returns-in_err-ended-in-End-clause-answers c =
    let p = c.loop-found.invariant in
    let k = (goal.at.returns-in_err-ended-in-End-clause-answers c).In-Ok in
    let finished = ends_finished p (read k) (passes k) (ap (λ x. is_finish (record_means x)) c.in-End.is) in
    let r = err_from_is_err_and c.from_residual.result c.from_residual.ensures.1 in
    rw (r.1, r.2, finished, outcome-refused _ _ _ (c.in_err-ended-in-End.ensures p.board _ p.table refl))

pub returns-in-End-clause-answers : goal.returns-in-End-clause-answers
unfolding record_means is_finish table_answer
returns-in-End-clause-answers c =
    let p = c.loop-found.invariant in
    let k = (goal.at.returns-in-End-clause-answers c).In-Ok in
    let finished = ends_finished p (read k) (passes k) (ap (λ x. is_finish (record_means x)) c.in-End.is) in
    rw (finished, ending-accepted _ _ _ _ (c.in_ok-ended-in-End.ensures p.board _ p.table refl)) (ap accepted p.table)

-- with the zero table beside a refusal, it is the table that document 01 hands back
pub returns-in_default-clause-table : goal.returns-in_default-clause-table
returns-in_default-clause-table c = table_in-of _ (Err c.unwrap_err.result) (returns-in_default-clause-answers c)

pub returns-in_err-ended-in-End-clause-table : goal.returns-in_err-ended-in-End-clause-table
returns-in_err-ended-in-End-clause-table c = table_in-of _ c.from_residual.result (returns-in_err-ended-in-End-clause-answers c)

pub returns-in-End-clause-table : goal.returns-in-End-clause-table
returns-in-End-clause-table c = table_in-of _ (Ok c.loop-found.t) (returns-in-End-clause-answers c)

pub loop-found-smaller : goal.loop-found-smaller
loop-found-smaller c = further (goal.at.loop-found-smaller c).In-Ok

pub loop-found-preserved : goal.loop-found-preserved
unfolding record_means is_finish taking
loop-found-preserved c =
    let p = c.loop-found.invariant in
    let k = (goal.at.loop-found-preserved c).In-Ok in
    let t = c.loop-found.t in
    elim c.match-found.branch [
      | in-Count w ↦
          let n = w.in-Count.n in
          again k (count n) (ap record_means w.in-Count.is) refl _ _ (w.t-is ∙ rw w.from.ensures (table_of-count p.board t p.table n)) c.with-seen.ensures
      | in-Hypothesis w ↦
          let h = w.in-Hypothesis in
          let is = ap record_means h.is in
          again k (hypothesis h.d h.a h.w) is refl _ _
          (w.t-is ∙ table_of-hypothesis p.board t p.table h.d h.a h.w (hypothesis-fits k _ _ _ is))
          c.with-seen.ensures
      | in-Rule w ↦
          let r = w.in-Rule in
          let is = ap record_means r.is in
          again k (rule r.head r.places) is refl _ _
          (w.t-is
          ∙ table_of-rule p.board t p.table r.head r.places (begun_rules p.board p.begun) (rule_fits k _ _ is) (search rules)
          (rule-filled_first p.board r.head r.places (checks k _ is refl)) _ w.put.ensures)
          c.with-seen.ensures
    ]
