-- `with` meets its contract: a hypothesis that passes is the first of the next declaration or one more of the last. Assumes nothing.
use Rattle.std.proofs.Common.{refl, arith}
use Rattle.board.specs.EntryPoints.{record_means}
use Rattle.board.specs.Load.{taking}
use Rattle.board.proofs.Laws.Load.Checks.{hypothesis-checked}
use Rattle.files.proofs.Laws.Seen.{seen_more, seen_rule}
use Rattle.files.proofs.checks.Seen.with.Goals as goal

pub returns-in-Count : goal.returns-in-Count
unfolding record_means taking
returns-in-Count c b room k p =
    rw (c.in-Count.is, c.from.ensures)
    (record { atoms = refl; rules = k.rules; declarations = k.declarations; last = k.last; hypotheses = k.hypotheses })

pub returns-in-Hypothesis : goal.returns-in-Hypothesis
unfolding record_means
returns-in-Hypothesis c b room k p =
    let h = c.in-Hypothesis in
    let number = c.from-number.ensures in
    let checked = hypothesis-checked b _ _ _ (rw h.is at p) in
    rw (h.is, number)
    (seen_more k _ _ _ _ _ checked.last_or_next (rw number at (c.size_of.ensures.size b k (rw number checked.last_or_next)))
    (omega (arith, checked.atom_below)) c.with.ensures)

pub returns-in-Rule : goal.returns-in-Rule
unfolding record_means taking
returns-in-Rule c b room k p = rw c.in-Rule.is (seen_rule k _)

pub returns-in-End : goal.returns-in-End
unfolding record_means taking
returns-in-End c b room k p = rw c.in-End.is k
