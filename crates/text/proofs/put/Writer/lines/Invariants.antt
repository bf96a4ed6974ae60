-- `lines` meets its contract: the texts of the first `i` lines are put. Assumes nothing.
use Rattle.text.specs.Private.Putting.{Puts, lines_text}
use Rattle.text.proofs.put.Writer.lines.Given as goal

abbrev pub invariant-loop-i : goal.invariant-loop-i
invariant-loop-i l = Puts l.initial.self (lines_text l.line l.i) l.self
