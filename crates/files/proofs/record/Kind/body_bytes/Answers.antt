-- `Kind::body_bytes` meets its contract: each arm is a case of `body_bytes`. Assumes nothing.
use Rattle.board.specs.File.{body_bytes}
use Rattle.files.proofs.record.Kind.body_bytes.Goals as goal

pub returns-in-Count : goal.returns-in-Count
unfolding body_bytes
returns-in-Count c = rw c.in-Count.is

pub returns-in-Hypothesis : goal.returns-in-Hypothesis
unfolding body_bytes
returns-in-Hypothesis c = rw c.in-Hypothesis.is

pub returns-in-Rule : goal.returns-in-Rule
unfolding body_bytes
returns-in-Rule c = rw c.in-Rule.is

pub returns-in-End : goal.returns-in-End
unfolding body_bytes
returns-in-End c = rw c.in-End.is
