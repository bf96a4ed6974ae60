-- `Kind::read_body` meets its contract: each arm is a case of `record_of`, and the body's bytes are there. Assumes nothing.
use Rattle.std.proofs.Common.{◌≡◌, ℕ, ◌+◌, ◌*◌, ◌≤◌, ◌<◌, length, take, get_or, ap, arith, rules}
use Rattle.std.proofs.lemmas.List.{get_or-take}
use Rattle.board.specs.File.{record_of, three_bytes}
use Rattle.board.specs.EntryPoints.{record_means}
use Rattle.board.proofs.Laws.File.{body_bytes-count, body_bytes-hypothesis, body_bytes-rule}
use Rattle.files.specs.Private.Kinds.{kind_number}
use Rattle.files.proofs.record.Kind.read_body.Goals as goal

pub bounds-body-0 : goal.bounds-body-0
bounds-body-0 c = omega (arith, body_bytes-count (ap kind_number c.in-Count.is))

pub unwrap-requires : goal.unwrap-requires
unwrap-requires c =
    let whole : 5 ≤ length c.args.body.now = omega (arith, body_bytes-hypothesis (ap kind_number c.in-Hypothesis.is)) in
    search (rules, whole)

pub bounds-body-0-in-Rule : goal.bounds-body-0-in-Rule
bounds-body-0-in-Rule c = omega (arith, body_bytes-rule (ap kind_number c.in-Rule.is))

pub eight_bytes-requires : goal.eight_bytes-requires
eight_bytes-requires c = omega (arith, body_bytes-rule (ap kind_number c.in-Rule.is))

pub returns-in-Count : goal.returns-in-Count
unfolding record_means record_of
returns-in-Count c = rw c.in-Count.is

pub returns-in-Hypothesis : goal.returns-in-Hypothesis
unfolding record_means record_of three_bytes
returns-in-Hypothesis c =
    let body = c.args.body.now in
    let five : c.unwrap.result.now ≡ take 5 body = search rules in
    let byte : (i : ℕ) → i < 5 → get_or c.unwrap.result.now i 0 ≡ get_or body i 0 = λ i l. rw five (get_or-take 5 body i 0 l) in
    let weight : c.from_le_bytes.result ≡ get_or body 2 0 + 256 * get_or body 3 0 + 65536 * get_or body 4 0 =
    omega (arith, c.from_le_bytes.ensures, byte 2 (omega arith), byte 3 (omega arith), byte 4 (omega arith)) in
    rw (c.in-Hypothesis.is, byte 0 (omega arith), byte 1 (omega arith), weight)

pub returns-in-Rule : goal.returns-in-Rule
unfolding record_means record_of
returns-in-Rule c = rw (c.in-Rule.is, c.eight_bytes.ensures)

pub returns-in-End : goal.returns-in-End
unfolding record_means record_of
returns-in-End c = rw c.in-End.is
