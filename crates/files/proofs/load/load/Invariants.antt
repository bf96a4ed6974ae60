-- `load` meets its contract. The loop's invariant is `Progress`: the board read so far stands in the table, what is known of it is, and what
-- is left to load is what `load_from` gives from the next place on. The measure is what is left of the file. Assumes nothing.
use Prim.Native.Nat.{◌-◌}
use lib.ListN.{length}
use Rattle.files.proofs.Laws.Progress.{Progress}
use Rattle.files.proofs.load.load.Given as goal

abbrev pub invariant-loop-found : goal.invariant-loop-found
invariant-loop-found l = Progress l.file l.t l.seen l.at

abbrev pub decreases-loop-found : goal.decreases-loop-found
decreases-loop-found l = length l.file - l.at
