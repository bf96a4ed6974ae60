-- `ended` meets its contract: W, cut off above 10^15, passes 10^15 exactly if W does. Assumes nothing.
use native.Mathlib.Omega.{arith}
use Prim.Native.Nat.{◌+◌, min}
use mathlib.Core.Path.{◌≡◌}
use lib.ListN.{length}
use borrow.Author.Tests.{lt-ltb, le-ltb}
use Rattle.board.specs.Sizes.{most_w}
use Rattle.board.specs.Board.{Board, W}
use Rattle.board.specs.Load.{at_the_end}
use Rattle.board.specs.Table.{table_of}
use Rattle.board.specs.EntryPoints.{outcome_of}
use Rattle.files.specs.Private.Taking.{ending}
use Rattle.board.proofs.Laws.Table.Arrays.{board_in-table_of}
use Rattle.files.proofs.load.ended.Goals as goal
use Rattle.files.proofs.load.ended.Goals.{After-whole_weight}

-- W, as the code sees it
weight : (c : After-whole_weight) (b : Board) → c.args.t.now ≡ table_of b → c.whole_weight.result ≡ min (W b) (most_w + 1)
weight c b e =
    let t = c.args.t.now in
    let whole : min t.hypotheses 128 ≡ t.hypotheses = omega arith in
    rw (whole, board_in-table_of b t e) at (c.whole_weight.ensures t.atoms t.atom b.rules)

pub returns-then-whole_weight-gt-MOST_W : goal.returns-then-whole_weight-gt-MOST_W
unfolding ending outcome_of
returns-then-whole_weight-gt-MOST_W c b file e l =
    rw (lt-ltb most_w (W b) (omega (arith, weight (goal.at.returns-then-whole_weight-gt-MOST_W c).After-whole_weight b e)))

pub returns-then-next-len : goal.returns-then-next-len
unfolding ending at_the_end outcome_of
returns-then-next-len c b file e l =
    let w = weight (goal.at.returns-then-next-len c).After-whole_weight b e in
    rw (le-ltb most_w (W b) (omega (arith, w)), lt-ltb c.args.next (length file) (omega arith))

pub returns : goal.returns
unfolding ending at_the_end outcome_of
returns c b file e l =
    let w = weight (goal.at.returns c).After-whole_weight b e in
    rw (le-ltb most_w (W b) (omega (arith, w)), le-ltb c.args.next (length file) (omega arith))
