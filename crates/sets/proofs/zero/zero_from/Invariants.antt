-- `zero_from` meets its contract: the digits of the numbers passed, and what is left to look at, decide. Assumes nothing.
use mathlib.Core.Path.{◌≡◌}
use mathlib.Core.Bool.{◌&&◌}
use mathlib.Core.List.{map}
use lib.Dec.{eqb}
use Rattle.sets.specs.Lists.{zero_from}
use Rattle.sets.proofs.zero.zero_from.Given as goal

abbrev pub invariant-loop-word : goal.invariant-loop-word
invariant-loop-word g l =
    let number = g.T.Word.number in
    zero_from l.n (map number l.array) ≡ (eqb (number l.digits) 0 && zero_from l.word-index (map number l.word-items))
