-- `numbers` takes two bytes for each number: two more after those of the numbers before. Assumes nothing.
use Rattle.std.proofs.Common.{◌∙◌, ◌≡◌, ◌+◌, ◌*◌, ap, drop, arith}
use Rattle.std.proofs.lemmas.List.{drop-drop}
use Rattle.replay.proofs.item.numbers.Goals as goal

pub loop-number-preserved : goal.loop-number-preserved
loop-number-preserved c =
    let i = c.loop-number.number-index in
    let n : 2 * i + 2 ≡ 2 * (i + 1) = omega arith in
    c.next.ensures ∙ ap (drop 2) c.loop-number.invariant
    ∙ drop-drop 2 (2 * i) c.args.item.now.rest.now
    ∙ ap (λ k. drop k c.args.item.now.rest.now) n
