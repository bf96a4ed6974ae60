-- `read_record` meets its contract: the tests that lead to each answer are those of `read_record`. Assumes nothing.
use Rattle.std.proofs.Common.{◌≡◌, ℕ, ◌≤◌, ◌<◌, length, get_or, Result, Ok, Err, MatchResult, true, false, sym, ap, subst, ◌∙◌, arith, rules}
use Rattle.std.proofs.lemmas.List.{take_rest}
use Rattle.std.proofs.lemmas.Result.{err_from_is_err_and}
use Rattle.board.specs.File.{known_kind, next_place}
use Rattle.board.specs.EntryPoints.{read_means}
use Rattle.board.specs.declared.Refusal.{Refusal}
use Rattle.board.specs.declared.Refusal.TheVariants as refusal
use Rattle.board.specs.declared.RefusedAt.{RefusedAt}
use Rattle.board.proofs.Laws.File.{body_bytes-le, read_past, read_unknown, read_short, read_whole}
use Rattle.files.specs.declared.record.Kind.{Kind}
use Rattle.files.specs.Private.Kinds.{kind_number, KindOf}
use Rattle.files.proofs.Laws.Kinds.{known_number, record_of-drop}
use Rattle.files.proofs.record.read_record.Goals as goal
use Rattle.files.proofs.record.read_record.Goals.{In-Some, In_ok-kind}

-- the byte that was read
byte : (c : In-Some) → (c.args.at < length c.args.file.now) × (c.in-Some.byte.now ≡ get_or c.args.file.now c.args.at 0)
byte c = search rules

-- .. is that of the kind
kind_byte : (c : In_ok-kind) → get_or c.args.file.now c.args.at 0 ≡ kind_number c.in_ok-kind.kind
kind_byte c =
    let given : c.try_from.result ≡ Ok c.in_ok-kind.kind = search rules in
    let read : c.in-Some.byte.now ≡ get_or c.args.file.now c.args.at 0 = search rules in
    sym read ∙ subst (λ r. KindOf c.in-Some.byte.now r) given c.try_from.ensures

-- .. which is known
known : (c : In_ok-kind) → known_kind (get_or c.args.file.now c.args.at 0) ≡ true
known c = rw (kind_byte c) (known_number c.in_ok-kind.kind)

-- a byte of no kind is unknown
refused : (r : Result Kind Refusal) (byte at : ℕ) (d : RefusedAt) (Made : Refusal → Type 0) → KindOf byte r
    → ((e : Refusal) → Made e → d ≡ record { refusal = e; place = at }) → MatchResult r (λ k. Err d ≡ Ok k) Made
    → (known_kind byte ≡ false) × (d ≡ record { refusal = refusal.Kind; place = at })
refused (Ok k) byte at d Made h made m = cc
refused (Err e) byte at d Made h made m = (h.0, made e m ∙ ap (λ q. record { refusal = q; place = at }) h.1)

pub returns-in_default : goal.returns-in_default
unfolding read_means
returns-in_default c =
    let a = c.args in
    let past : length a.file.now ≤ a.at = search rules in
    sym (read_past a.file.now a.at past)

pub returns-in_err-kind : goal.returns-in_err-kind
unfolding read_means
returns-in_err-kind c =
    let a = c.args in
    let read = byte (goal.at.returns-in_err-kind c).In-Some in
    let p = err_from_is_err_and c.from_residual.result c.from_residual.ensures.1 in
    let q = refused c.try_from.result c.in-Some.byte.now a.at c.in_err-kind.field-0.0 _ c.try_from.ensures (λ e m. search rules) c.in_err-kind.ensures.cases in
    rw (p.1, p.2, q.1) (sym (read_unknown a.file.now a.at read.0 (rw read.1 at q.0)))

pub overflow_add-next-2 : goal.overflow_add-next-2
overflow_add-next-2 c =
    let read = byte (goal.at.overflow_add-next-2 c).In-Some in
    omega (arith, read.0, c.body_bytes.ensures, body_bytes-le (kind_number c.in_ok-kind.kind))

pub returns-then-file-next : goal.returns-then-file-next
unfolding read_means next_place
returns-then-file-next c =
    let a = c.args in
    let read = byte (goal.at.returns-then-file-next c).In-Some in
    let kind = (goal.at.returns-then-file-next c).In_ok-kind in
    sym (read_short a.file.now a.at read.0 (known kind) (rw (kind_byte kind) (omega (arith, c.body_bytes.ensures))))

pub returns : goal.returns
unfolding read_means next_place
returns c =
    let a = c.args in
    let read = byte (goal.at.returns c).In-Some in
    let kind = (goal.at.returns c).In_ok-kind in
    let whole = read_whole a.file.now a.at read.0 (known kind) (rw (kind_byte kind) (omega (arith, c.body_bytes.ensures))) in
    rw (c.read_body.ensures, take_rest, record_of-drop, c.body_bytes.ensures) (sym (rw (kind_byte kind) at whole))
