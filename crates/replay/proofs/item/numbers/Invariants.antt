-- `numbers` takes two bytes for each number. Assumes nothing.
use Rattle.std.proofs.Common.{◌≡◌, ◌*◌, drop}
use Rattle.replay.proofs.item.numbers.Given as goal

abbrev pub invariant-loop-number : goal.invariant-loop-number
invariant-loop-number l = l.item.rest.now ≡ drop (2 * l.number-index) l.initial.item.rest.now
