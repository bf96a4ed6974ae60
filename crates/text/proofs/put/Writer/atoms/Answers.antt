-- `atoms` meets its contract: the texts of the atoms passed are put, and they and those to come are the atoms of the set. Assumes nothing.
use Prim.Native.Nat.{ℕ}
use mathlib.Core.List.{List, ◌++◌, append_assoc}
use Rattle.search.specs.Listing.{bytes_of, decimal}
use Rattle.text.proofs.Laws.Texts.{texts_none, texts_next, texts_put}
use Rattle.text.proofs.put.Writer.atoms.Goals as goal

-- the text of an atom
abbrev of : ℕ → List ℕ
of a = bytes_of " " ++ decimal a

pub loop-a-init : goal.loop-a-init
loop-a-init c = record { put = texts_none of; all = rw (c.into_iter-a-iterator.ensures.into_iter_gives, c.atoms-a-items.ensures) }

pub labelled-requires : goal.labelled-requires
unfolding bytes_of
labelled-requires c =
    let l = c.loop-a in
    rw (← c.from.ensures) at (texts_next of l.yielded c.in-Some.a l.invariant.put _ (rw (l.invariant.all, c.in-Some.ensures.steps) at c.requires))

pub loop-a-preserved : goal.loop-a-preserved
unfolding bytes_of
loop-a-preserved c =
    let l = c.loop-a in
    record {
      put = texts_put of l.yielded c.in-Some.a l.invariant.put (rw (← c.from.ensures) c.labelled.ensures);
      all = rw (append_assoc, ← c.in-Some.ensures.steps) l.invariant.all;
    }
