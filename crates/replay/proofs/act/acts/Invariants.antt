-- `acts` ends: each act leaves fewer bytes. Assumes nothing.
use Rattle.std.proofs.Common.{length}
use Rattle.replay.proofs.act.acts.Given as goal

abbrev pub decreases-loop-held : goal.decreases-loop-held
decreases-loop-held g l = length l.script.rest.now
