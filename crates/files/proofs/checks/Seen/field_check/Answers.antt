-- `field_check` meets its contract: each kind of record has its own function. Assumes nothing.
use Rattle.board.specs.EntryPoints.{record_means}
use Rattle.board.specs.Load.{is_finish}
use Rattle.files.specs.Private.Taking.{field_refusal}
use Rattle.files.proofs.checks.Seen.field_check.Goals as goal

pub returns-in-Count : goal.returns-in-Count
unfolding record_means field_refusal is_finish
returns-in-Count c b k = rw c.in-Count.is (c.count_check.ensures b)

pub returns-in-Hypothesis : goal.returns-in-Hypothesis
unfolding record_means field_refusal is_finish
returns-in-Hypothesis c b k = rw c.in-Hypothesis.is (c.hypothesis_check.ensures b k)

pub returns-in-Rule : goal.returns-in-Rule
unfolding record_means field_refusal is_finish
returns-in-Rule c b k = rw c.in-Rule.is (c.rule_check.ensures b k)

pub returns-in-End : goal.returns-in-End
unfolding record_means field_refusal is_finish
returns-in-End c b k = rw c.in-End.is
