-- `last` meets its contract: the low end, the high end, the steps, the ending. Assumes nothing.
use mathlib.Core.List.{append_assoc}
use Rattle.search.specs.Listing.{bytes_of}
use Rattle.text.proofs.Laws.Putting.{put_both}
use Rattle.text.proofs.put.Writer.last.Goals as goal

pub returns : goal.returns
unfolding bytes_of
returns c =
    simp append_assoc
    (rw c.from.ensures at (put_both c.labelled.ensures (put_both c.labelled-2.ensures (put_both c.labelled-3.ensures c.ending.ensures))))
