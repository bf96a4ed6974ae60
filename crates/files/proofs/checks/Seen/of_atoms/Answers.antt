-- `of_atoms` meets its contract: no hypothesis has no declaration and no atom. Assumes nothing.
use Rattle.files.proofs.Laws.Seen.{seen_none}
use Rattle.files.proofs.checks.Seen.of_atoms.Goals as goal

pub returns : goal.returns
returns c = seen_none _ _ c.empty.ensures
