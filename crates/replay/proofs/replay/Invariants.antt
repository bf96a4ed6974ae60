-- `replay` ends: each item leaves fewer bytes. Assumes nothing.
use Rattle.std.proofs.Common.{length}
use Rattle.replay.proofs.replay.Given as goal

abbrev pub decreases-loop-container : goal.decreases-loop-container
decreases-loop-container g l = length l.container.rest.now
