-- `of` meets its contract: the set so far is that of the atoms passed. Assumes nothing.
use native.Mathlib.Omega.{arith}
use mathlib.Core.Path.{sym}
use lib.ListN.{get_or, take}
use Rattle.std.proofs.lemmas.List.{take_more}
use Rattle.sets.specs.Lists.{keep}
use Rattle.sets.specs.Sets.{set_of}
use Rattle.sets.proofs.Laws.Masks.{set_of-keep_snoc}
use Rattle.sets.proofs.mask.Mask.of.Goals as goal

pub loop-a-init : goal.loop-a-init
unfolding set_of keep
loop-a-init c = c.empty-set.ensures

pub loop-a-preserved : goal.loop-a-preserved
loop-a-preserved c =
    let xs = c.args.atoms.now in
    let i = c.loop-a.a-index in
    rw (c.with-set.ensures, c.loop-a.invariant, take_more xs i 0 (omega arith)) (sym (set_of-keep_snoc (get_or xs i 0) (take i xs)))
