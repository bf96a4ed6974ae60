-- `lines` meets its contract: the texts of the first `i` lines are put. Assumes nothing.
use native.Mathlib.Numerals.{add-one}
use native.Mathlib.Omega.{arith}
use Prim.Native.Nat.{ℕ}
use mathlib.Core.Path.{◌≡◌, sym, ap}
use mathlib.Core.List.{List}
use Rattle.sets.specs.Lists.{numbers_from, below}
use Rattle.sets.specs.Masks.{mask_means}
use Rattle.sets.proofs.Laws.Lists.Ends.{below_snoc}
use Rattle.search.specs.Entries.{entry_means}
use Rattle.search.specs.Layout.{line_in}
use Rattle.search.specs.Listing.{line_text}
use Rattle.search.specs.Order.{Entry, Line, line_with, finished}
use Rattle.search.specs.declared.order.Entry.{Entry as EntryCode}
use Rattle.text.proofs.Laws.Texts.{texts_none, texts_next, texts_put, below-split}
use Rattle.text.proofs.put.Writer.lines.Goals as goal

-- the texts of the lines of an array
abbrev of : List ℕ → ℕ → List ℕ
of line i = line_text (line_in line i)

-- the text of a line as it was read
read : (r : EntryCode) (l : Line) → entry_means r ≡ finished l → line_text l ≡ line_text (line_with r.weight (mask_means r.chosen))
unfolding entry_means finished
read r l e = ap (λ (f : Entry). line_text (line_with f.weight f.chosen)) (sym e)

pub loop-i-init : goal.loop-i-init
unfolding below numbers_from
loop-i-init c = texts_none (of c.args.line.now)

pub line-requires : goal.line-requires
line-requires c =
    let line = c.args.line.now in
    let i = c.loop-i.i in
    rw (read c.line_at.result (line_in line i) c.line_at.ensures)
    at (texts_next (of line) (below i) i c.loop-i.invariant _ (rw (below-split i c.args.n (omega arith)) at c.requires))

pub loop-i-preserved : goal.loop-i-preserved
loop-i-preserved c =
    let line = c.args.line.now in
    let i = c.loop-i.i in
    rw (add-one, below_snoc)
    (texts_put (of line) (below i) i c.loop-i.invariant (rw (read c.line_at.result (line_in line i) c.line_at.ensures) c.line.ensures))
