-- `ascend` meets its contract: in every pair of neighbours the second place is empty or above the first. Assumes nothing.
use Rattle.std.proofs.Common.{rules}
use Rattle.std.proofs.iter.runs.Made.{chains}
use Rattle.files.proofs.Laws.Places.{climbs_test}
use Rattle.files.proofs.places.ascend.Goals as goal

pub returns : goal.returns
returns c = climbs_test c.args.places.now c.all.result (search rules) (search (rules, chains)) (search (rules, chains))
