-- `hypothesis_check` meets its contract: its tests, in their order, are the checks 4 to 7. Assumes nothing.
use native.Mathlib.Omega.{arith}
use mathlib.Core.Path.{◌≡◌, sym, ◌∙◌}
use mathlib.Core.Bool.{Bool, true, ◌||◌}
use Prim.Native.Nat.{ℕ, suc, ◌<◌}
use lib.Dec.{eqb}
use lib.ListN.{length}
use Rattle.std.proofs.lemmas.Grind.{common_steps}
use Rattle.board.specs.Board.{Board, declarations_in, declaration, is_hypothesis}
use Rattle.board.specs.Load.{first_failing, field_checks}
use Rattle.files.specs.Private.Seen.{SeenOf}
use Rattle.board.proofs.Laws.Load.Checks.{follows_of}
use Rattle.files.proofs.Laws.Seen.{seen_member}
use Rattle.files.proofs.checks.Seen.hypothesis_check.Goals as goal
use Rattle.files.proofs.checks.Seen.hypothesis_check.Goals.{After-follows, After-member, After-size_of, then-number-gt31-via-then-number-gt31, then-number-gt31-via-else-number-gt31+then-not-follows, then-member-via-then-member, then-member-via-else-member+then-size_of-ge16}

pub returns-then-self-from : goal.returns-then-self-from
unfolding first_failing field_checks
returns-then-self-from c b k = grind (arith, common_steps)

-- what is asked of a declaration's number: it is the last one or the next
abbrev asked : ℕ → Board → Bool
asked d b = eqb (suc d) (declarations_in b.hypotheses) || eqb d (declarations_in b.hypotheses)

-- what `follows` found
followed : (c : After-follows) (b : Board) → SeenOf b c.args.self → c.follows.result ≡ asked c.args.d b
followed c b k = rw (c.from-number.ensures, k.declarations) at c.follows.ensures

pub returns-then-number-gt31 : goal.returns-then-number-gt31
unfolding first_failing field_checks
returns-then-number-gt31 c b k =
    elim c.then-number-gt31.branch [
      | then-number-gt31-via-then-number-gt31 w ↦ grind (arith, common_steps)
      | then-number-gt31-via-else-number-gt31+then-not-follows w ↦ grind (arith, common_steps)
    ]

-- whether the atom is a hypothesis already
known : (c : After-member) (b : Board) → SeenOf b c.args.self → c.member.result ≡ is_hypothesis b c.args.a
known c b k = c.member.ensures ∙ seen_member k _

-- how many hypotheses its declaration has
size : (c : After-size_of) (b : Board) → SeenOf b c.args.self → asked c.args.d b ≡ true
    → c.size_of.result ≡ length (declaration b.hypotheses c.args.d)
size c b k f =
    let number = c.from-number.ensures in
    rw number at (c.size_of.ensures.size b k (rw number (follows_of b.hypotheses c.args.d f)))

pub returns-then-member : goal.returns-then-member
unfolding first_failing field_checks
returns-then-member c b k =
    let at = goal.at.returns-then-member c in
    let f = sym (followed at.After-follows b k) ∙ c.if-not-follows.false in
    let m = known at.After-member b k in
    elim c.then-member.branch [
      | then-member-via-then-member w ↦ grind (arith, common_steps)
      | then-member-via-else-member+then-size_of-ge16 w ↦
          let s : w.size_of.result ≡ length (declaration b.hypotheses c.args.d) =
          rw c.from-number.ensures at (w.size_of.ensures.size b k (rw c.from-number.ensures (follows_of b.hypotheses c.args.d f))) in
          grind (arith, common_steps)
    ]

pub returns-then-w-eq0 : goal.returns-then-w-eq0
unfolding first_failing field_checks
returns-then-w-eq0 c b k =
    let at = goal.at.returns-then-w-eq0 c in
    let f = sym (followed at.After-follows b k) ∙ c.if-not-follows.false in
    let m = known at.After-member b k in
    let s = size at.After-size_of b k f in
    let few : length (declaration b.hypotheses c.args.d) < 16 = omega arith in
    grind (arith, common_steps)

pub returns : goal.returns
unfolding first_failing field_checks
returns c b k =
    let at = goal.at.returns c in
    let f = sym (followed at.After-follows b k) ∙ c.if-not-follows.false in
    let m = known at.After-member b k in
    let s = size at.After-size_of b k f in
    let few : length (declaration b.hypotheses c.args.d) < 16 = omega arith in
    grind (arith, common_steps)
