-- `ran` meets its contract: W, the lines, the last line. Assumes nothing.
use native.Mathlib.Omega.{arith}
use mathlib.Core.Path.{◌≡◌}
use mathlib.Core.List.{[], ◌++◌}
use lib.ListN.{length-append}
use Rattle.board.specs.Table.{board_of}
use Rattle.board.proofs.Promise.{table-weight}
use Rattle.search.specs.Search.{bench}
use Rattle.search.specs.EntryPoints.{run_search, run_means}
use Rattle.search.specs.Listing.{bytes_of, decimal, last_text, ran_text}
use Rattle.text.specs.Private.Putting.{lines_text}
use Rattle.text.proofs.Laws.Putting.{put_both}
use Rattle.text.proofs.Laws.Texts.{lines_texts}
use Rattle.text.proofs.put.Writer.ran.Goals as goal
use Rattle.text.proofs.put.Writer.ran.Goals.{After-whole_weight}

-- what is printed of the run: W as `whole_weight` gives it, the lines, the last line
all : (c : After-whole_weight) → let s = c.run-ran.new.s in let t = c.args.accepted.table.now in
    ran_text (board_of t) (run_search bench t c.args.search.now c.args.allowance)
    ≡ bytes_of "total " ++ decimal c.whole_weight.result ++ bytes_of "\n" ++ lines_text s.line s.lines ++ last_text (run_means s c.run-ran.result)
unfolding ran_text run_means
all c =
    rw (← c.run-ran.ensures, ← table-weight c.args.accepted.table.now c.args.accepted.loads 0 [] [], ← c.whole_weight.ensures 0 [] [], lines_texts)

pub ended-requires : goal.ended-requires
unfolding bytes_of
ended-requires c =
    let room = rw (all (goal.at.ended-requires c).After-whole_weight) at c.requires in
    simp length-append (omega (arith, simp length-append at room))

pub lines-requires : goal.lines-requires
unfolding bytes_of
lines-requires c =
    let room = rw (all (goal.at.lines-requires c).After-whole_weight) at c.requires in
    omega (arith, simp length-append at room, simp length-append at c.ended.ensures.next)

pub last-requires : goal.last-requires
unfolding bytes_of last_text run_means
last-requires c =
    let room = rw (all (goal.at.last-requires c).After-whole_weight) at c.requires in
    simp length-append (omega (arith, simp length-append at room, simp length-append at c.ended.ensures.next))

pub returns : goal.returns
unfolding bytes_of last_text run_means
returns c = rw (all (goal.at.returns c).After-whole_weight) (put_both (put_both c.ended.ensures c.lines.ensures) c.last.ensures)
