-- `rule_check` meets its contract: its tests, in their order, are the checks 4 and 9 to 12. Assumes nothing.
use native.Mathlib.Omega.{arith}
use mathlib.Core.Path.{◌≡◌, ◌∙◌}
use Rattle.std.proofs.lemmas.Grind.{common_steps}
use Rattle.board.specs.Board.{Board, is_hypothesis}
use Rattle.board.specs.Load.{filled, first_failing, field_checks}
use Rattle.files.specs.Private.Seen.{SeenOf}
use Rattle.files.proofs.Laws.Places.{any-top}
use Rattle.files.proofs.Laws.Seen.{seen_member}
use Rattle.files.proofs.checks.Seen.rule_check.Goals as goal
use Rattle.files.proofs.checks.Seen.rule_check.Goals.{After-member}

pub returns-then-self-from : goal.returns-then-self-from
unfolding first_failing field_checks
returns-then-self-from c b k =
    let p = any-top b.atoms (filled c.args.places.now) in
    grind (arith, common_steps)

pub returns-then-not-ascend : goal.returns-then-not-ascend
unfolding first_failing field_checks
returns-then-not-ascend c b k =
    let p = any-top b.atoms (filled c.args.places.now) in
    grind (arith, common_steps)

-- whether the head is a hypothesis
known : (c : After-member) (b : Board) → SeenOf b c.args.self → c.member.result ≡ is_hypothesis b c.args.head
known c b k = c.member.ensures ∙ seen_member k _

pub returns-then-member : goal.returns-then-member
unfolding first_failing field_checks
returns-then-member c b k =
    let p = any-top b.atoms (filled c.args.places.now) in
    let m = known (goal.at.returns-then-member c).After-member b k in
    grind (arith, common_steps)

pub returns-then-from-past : goal.returns-then-from-past
unfolding first_failing field_checks
returns-then-from-past c b k =
    let p = any-top b.atoms (filled c.args.places.now) in
    let q = any-top c.args.head (filled c.args.places.now) in
    let m = known (goal.at.returns-then-from-past c).After-member b k in
    grind (arith, common_steps)

pub returns-then-self-ge256 : goal.returns-then-self-ge256
unfolding first_failing field_checks
returns-then-self-ge256 c b k =
    let p = any-top b.atoms (filled c.args.places.now) in
    let q = any-top c.args.head (filled c.args.places.now) in
    let m = known (goal.at.returns-then-self-ge256 c).After-member b k in
    grind (arith, common_steps)

pub returns : goal.returns
unfolding first_failing field_checks
returns c b k =
    let p = any-top b.atoms (filled c.args.places.now) in
    let q = any-top c.args.head (filled c.args.places.now) in
    let m = known (goal.at.returns c).After-member b k in
    grind (arith, common_steps)
