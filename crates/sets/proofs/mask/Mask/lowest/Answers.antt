-- `lowest` meets its contract: the lowest one of the low word, or else of the high one. Assumes nothing.
use native.Mathlib.Omega.{arith}
use Rattle.sets.proofs.Laws.Masks.Counts.{lowest-low-word, lowest-high-word, members_no_word}
use Rattle.sets.proofs.mask.Mask.lowest.Goals as goal

pub returns-then-self-ne0 : goal.returns-then-self-ne0
returns-then-self-ne0 c = lowest-low-word c.args.self (omega arith) c.if-self-ne0.true

pub returns-then-self-ne0-2 : goal.returns-then-self-ne0-2
returns-then-self-ne0-2 c = lowest-high-word c.args.self c.if-self-ne0.false (omega arith) c.if-self-ne0-2.true

pub returns : goal.returns
returns c = members_no_word c.args.self c.if-self-ne0-2.false c.if-self-ne0.false
