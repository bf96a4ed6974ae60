-- `hypotheses_pass` meets its contract: those passed so far pass, and what is known of them is kept. Assumes nothing.
use native.Mathlib.Omega.{arith}
use native.Mathlib.Numerals.{add-one}
use mathlib.Core.Path.{◌≡◌, sym, ◌∙◌}
use mathlib.Core.List.{[]}
use Prim.Native.Nat.{pred}
use lib.ListN.{get_or}
use Rattle.board.specs.Board.{declarations_in}
use Rattle.board.specs.File.{hypothesis}
use Rattle.board.specs.Load.{first_failing, field_checks, taking}
use Rattle.board.specs.EntryPoints.{record_means}
use Rattle.board.specs.Table.{hypothesis_in, hypotheses_in, board_in}
use Rattle.board.specs.Private.Passes.{each_passes}
use Rattle.board.proofs.Laws.Lent.{hypotheses_in-zero, hypotheses_in-suc}
use Rattle.files.specs.Private.Taking.{failed_number}
use Rattle.files.proofs.Laws.Failed.{failed-err, failed-ok}
use Rattle.files.proofs.Laws.Passing.{first_pass-more, first_pass-fails}
use Rattle.board.proofs.Laws.Load.{hypothesis_passes-of}
use Rattle.board.proofs.Laws.Load.Hypotheses.{hypothesis_passes-zero, hypothesis_passes-weight, hypotheses_sizes}
use Rattle.files.proofs.accepted.hypotheses_pass.Goals as goal
use Rattle.files.proofs.accepted.hypotheses_pass.Goals.{After-hypothesis_check, then-w-gt-MOST_WEIGHT-via-then-w-gt-MOST_WEIGHT, then-w-gt-MOST_WEIGHT-via-else-w-gt-MOST_WEIGHT+then-is_err}

pub loop-i-init : goal.loop-i-init
unfolding each_passes
loop-i-init c =
    let t = c.args.t.now in
    (rw (hypotheses_in-zero t.declaration t.atom t.weight) c.of_atoms-seen.ensures, rw (hypotheses_in-zero t.declaration t.atom t.weight) tt)

pub returns-then-w-gt-MOST_WEIGHT : goal.returns-then-w-gt-MOST_WEIGHT
returns-then-w-gt-MOST_WEIGHT c =
    let t = c.args.t.now in
    let l = c.loop-i in
    let hs = hypotheses_in t.declaration t.atom t.weight l.i in
    let h = hypothesis_in t.declaration t.atom t.weight l.i in
    sym (first_pass-fails t.atoms t.declaration t.atom t.weight l.i t.hypotheses (omega arith)
    (λ p. elim c.then-w-gt-MOST_WEIGHT.branch [
      | then-w-gt-MOST_WEIGHT-via-then-w-gt-MOST_WEIGHT w ↦ omega (arith, hypothesis_passes-weight t.atoms hs h p)
      | then-w-gt-MOST_WEIGHT-via-else-w-gt-MOST_WEIGHT+then-is_err w ↦
          failed-err w.hypothesis_check.result w.if-is_err.ensures.value
          (w.hypothesis_check.ensures (board_in t.atoms t.declaration t.atom t.weight l.i []) l.invariant.0 ∙ hypothesis_passes-zero t.atoms hs h p)
    ]))

-- the check of the hypothesis at i, as it stands in the arrays
checked : (c : After-hypothesis_check) → let t = c.args.t.now in
    let i = c.loop-i.i in
    failed_number c.hypothesis_check.result
    ≡ first_failing (field_checks (board_in t.atoms t.declaration t.atom t.weight i [])
    (hypothesis (get_or t.declaration i 0) (get_or t.atom i 0) (get_or t.weight i 0)))
checked c = c.hypothesis_check.ensures _ c.loop-i.invariant.0

pub with-seen-requires : goal.with-seen-requires
with-seen-requires c =
    let t = c.args.t.now in
    let l = c.loop-i in
    let hs = hypotheses_in t.declaration t.atom t.weight l.i in
    (omega (arith, l.invariant.0.last, (hypotheses_sizes t.atoms hs l.invariant.1 (pred (declarations_in hs))).1), omega (arith, l.invariant.0.rules))

pub loop-i-preserved : goal.loop-i-preserved
unfolding record_means taking
loop-i-preserved c =
    let t = c.args.t.now in
    let l = c.loop-i in
    let passes = sym (checked (goal.at.loop-i-preserved c).After-hypothesis_check) ∙ failed-ok c.hypothesis_check.result c.if-is_err.ensures.negation in (
      rw (add-one, hypotheses_in-suc t.declaration t.atom t.weight l.i) (c.with-seen.ensures _ (omega arith) l.invariant.0 passes),
      rw add-one (first_pass-more t.atoms t.declaration t.atom t.weight l.i l.invariant.1
          (hypothesis_passes-of (board_in t.atoms t.declaration t.atom t.weight l.i []) (hypothesis_in t.declaration t.atom t.weight l.i) passes (omega arith))),
    )
