-- `count_check` meets its contract: its tests are those of check 4. Assumes nothing.
use Rattle.std.proofs.Common.{arith}
use Rattle.std.proofs.lemmas.Grind.{common_steps}
use Rattle.board.specs.Load.{first_failing, field_checks}
use Rattle.files.proofs.checks.count_check.Goals as goal

pub returns-then-n-eq0 : goal.returns-then-n-eq0
unfolding first_failing field_checks
returns-then-n-eq0 c b = grind (arith, common_steps)

pub returns : goal.returns
unfolding first_failing field_checks
returns c b = grind (arith, common_steps)
