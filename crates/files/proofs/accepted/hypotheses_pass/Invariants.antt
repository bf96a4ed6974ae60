-- `hypotheses_pass` meets its contract: those passed so far pass, and what is known of them is kept. Assumes nothing.
use lib.Dec.{T}
use mathlib.Core.List.{[]}
use Rattle.board.specs.Table.{board_in}
use Rattle.files.specs.Private.Seen.{SeenOf}
use Rattle.files.proofs.Laws.Passing.{first_pass}
use Rattle.files.proofs.accepted.hypotheses_pass.Given as goal

abbrev pub invariant-loop-i : goal.invariant-loop-i
invariant-loop-i l =
    let t = l.t in
    SeenOf (board_in t.atoms t.declaration t.atom t.weight l.i []) l.seen × T (first_pass t.atoms t.declaration t.atom t.weight l.i)
