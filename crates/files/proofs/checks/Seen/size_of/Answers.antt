-- `size_of` meets its contract: the next declaration has none yet, the last as many as were counted. Assumes nothing.
use mathlib.Core.Path.{sym}
use Rattle.files.proofs.Laws.Seen.{seen_next, seen_last}
use Rattle.files.proofs.checks.Seen.size_of.Goals as goal

pub returns-then-number-self-clause-size : goal.returns-then-number-self-clause-size
returns-then-number-self-clause-size c b k f = sym (seen_next k _ c.if-number-self.true)

pub returns-else-number-self-clause-size : goal.returns-else-number-self-clause-size
returns-else-number-self-clause-size c b k f = sym (seen_last k _ f c.if-number-self.false)
