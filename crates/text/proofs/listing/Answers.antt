-- `listing` meets its contract: too little room, and enough. Assumes nothing.
use native.Mathlib.Omega.{arith}
use Rattle.std.proofs.Common.{rules}
use Rattle.text.proofs.Laws.Lent.{lent_short, lent-put}
use Rattle.text.proofs.listing.Goals as goal

pub returns-then-text-lt-TEXT_BYTES : goal.returns-then-text-lt-TEXT_BYTES
returns-then-text-lt-TEXT_BYTES c = lent_short (omega arith)

pub returns : goal.returns
returns c = lent-put (omega arith) (omega arith) (search rules) (search rules)
