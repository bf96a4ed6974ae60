-- `main` is safe: the text has as many bytes as the listing says. Assumes nothing.
use Rattle.std.proofs.Common.{sym, length-take-le}
use Rattle.text.proofs.Laws.Lent.{lent-room}
use Rattle.listing.proofs.main.Goals as goal

pub slice_bounds-text-end : goal.slice_bounds-text-end
slice_bounds-text-end c = lent-room _ c.listing-n.ensures c.listing-n.auto.text

pub slice_bounds-write_all-end : goal.slice_bounds-write_all-end
slice_bounds-write_all-end c = sym (length-take-le c.listing-n.result c.listing-n.new.text (lent-room _ c.listing-n.ensures c.listing-n.auto.text))
