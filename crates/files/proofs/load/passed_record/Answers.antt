-- `passed_record` meets its contract: its tests, in their order, are those of `passed_record`. Assumes nothing.
use mathlib.Core.Path.{◌≡◌, sym, ap, ◌∙◌}
use mathlib.Core.Bool.{false}
use Rattle.std.proofs.Common.{rules}
use Rattle.std.proofs.lemmas.Result.{err_from_is_err_and}
use Rattle.board.specs.Answers.{accepted}
use Rattle.board.specs.Board.{Board}
use Rattle.board.specs.File.{Found, read_record}
use Rattle.board.specs.Load.{misplaced_at}
use Rattle.board.specs.EntryPoints.{record_means, read_means}
use Rattle.files.specs.Private.Seen.{SeenOf}
use Rattle.files.proofs.Laws.Failed.{numbered, failed-ok, failed_on}
use Rattle.files.proofs.Laws.Passed.{passed-misplaced, passed_unread, passed_failing, passed-passing}
use Rattle.files.proofs.load.passed_record.Goals as goal
use Rattle.files.proofs.load.passed_record.Goals.{After-field_check-checked, After-read_record-answer}

pub returns-then-misplaced_at : goal.returns-then-misplaced_at
unfolding read_means
returns-then-misplaced_at c b k = sym (passed-misplaced _ _ b (sym (c.misplaced_at.ensures b k) ∙ c.if-misplaced_at.true))

-- no record of a known kind is misplaced here
placed : (r : After-read_record-answer) (b : Board) → SeenOf b r.args.seen → misplaced_at r.args.file.now r.args.at b ≡ false
placed r b k = sym (r.misplaced_at.ensures b k) ∙ r.if-misplaced_at.false

pub returns-in_default : goal.returns-in_default
unfolding read_means
returns-in_default c b k =
    let told = ap read_means c.in_default.is in
    told ∙ sym (passed_unread _ _ b _ _ (placed (goal.at.returns-in_default c).After-read_record-answer b k) (sym c.read_record-answer.ensures ∙ told))

-- the record that was read
module _ (f : After-field_check-checked) where
  abbrev read : Found
  read = record { found = record_means f.in-Ok.found.record; next = f.in-Ok.found.next }

  read_it : read_record f.args.file.now f.args.at ≡ accepted read
  unfolding read_means
  read_it = sym f.read_record-answer.ensures ∙ ap read_means f.in-Ok.is

pub returns-in_err-map_err : goal.returns-in_err-map_err
unfolding read_means
returns-in_err-map_err c b k =
    let at = goal.at.returns-in_err-map_err c in
    let f = at.After-field_check-checked in
    let p = err_from_is_err_and c.from_residual.result c.from_residual.ensures.1 in
    let d = c.in_err-map_err.field-0.0 in
    let q = failed_on c.field_check-checked.result c.args.at d _ (λ r m. search rules) c.in_err-map_err.ensures.cases in
    let fails = sym (c.field_check-checked.ensures b k) ∙ q.0 in
    rw (p.1, p.2, q.1)
    (sym (passed_failing _ _ b (read f) (placed at.After-read_record-answer b k) (read_it f) _ fails (numbered d.refusal)))

pub returns : goal.returns
unfolding read_means
returns c b k =
    let at = goal.at.returns c in
    let f = at.After-field_check-checked in
    let passes = sym (c.field_check-checked.ensures b k) ∙ failed-ok c.field_check-checked.result (sym c.in_ok-map_err.ensures.variant) in
    sym (passed-passing _ _ b (read f) (placed at.After-read_record-answer b k) (read_it f) passes)
