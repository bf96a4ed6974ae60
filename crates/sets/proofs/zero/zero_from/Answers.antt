-- `zero_from` meets its contract: the digits of the numbers passed, and what is left to look at, decide. Assumes nothing.
use native.Mathlib.Numerals.{add-one}
use native.Mathlib.Omega.{arith}
use mathlib.Core.Path.{◌≡◌, sym, ap, ◌∙◌}
use mathlib.Core.Bool.{true, ◌&&◌, and-true}
use mathlib.Core.List.{List, map}
use Prim.Native.Nat.{ℕ, ◌+◌, ◌-◌, ◌<◌, ◌≤◌, min}
use lib.Bits.{bit_or}
use lib.Dec.{eqb}
use lib.ListN.{length, get_or, take, drop}
use Rattle.std.proofs.lemmas.List.{drop-map, drop_min, get_or-map, length-drop, length-map, take_all}
use Rattle.sets.specs.Lists.{zero_from}
use Rattle.sets.proofs.Laws.Lists.Padding.{zero_from_past, zero_from-more}
use Rattle.sets.proofs.zero.zero_from.Goals as goal

module _ {A : Type 0} (number : A → ℕ) where
  -- what the loop goes over is the array from n on
  rest : (n k : ℕ) (xs : List A) → k ≡ min n (length xs) → zero_from n (map number xs) ≡ zero_from 0 (map number (take (length xs - k) (drop k xs)))
  unfolding zero_from
  rest n k xs e = rw (take_all (length xs - k) (drop k xs) (omega (arith, length-drop k xs)), e, drop_min, drop-map)

  -- one number more is looked at
  more : (i : ℕ) (xs : List A) (x : A) → i < length xs → x ≡ get_or xs i x → (digits : ℕ)
      → (eqb digits 0 && zero_from i (map number xs)) ≡ (eqb (bit_or digits (number x)) 0 && zero_from (i + 1) (map number xs))
  more i xs x h e digits =
      let read : get_or (map number xs) i 0 ≡ number x = get_or-map number xs i x 0 h ∙ ap number (sym e) in
      rw (add-one, ← read) (zero_from-more i (map number xs) (omega (arith, length-map xs number)) digits)

  -- nothing is left past the end
  past : (i : ℕ) (xs : List A) → length xs ≤ i → zero_from i (map number xs) ≡ true
  past i xs h = zero_from_past i (map number xs) (omega (arith, length-map xs number))

pub loop-word-init : goal.loop-word-init
loop-word-init g c =
    let number = g.T.Word.number in
    let none = g.met.T.Word.laws.none _ c.default-digits.ensures in
    rw none (rest number c.args.n c.min.result c.args.array.now c.min.ensures)

pub loop-word-preserved : goal.loop-word-preserved
loop-word-preserved g c =
    let number = g.T.Word.number in
    let l = c.loop-word in
    let words = take (length c.args.array.now - c.min.result) (drop c.min.result c.args.array.now) in
    let joined = g.met.T.Word.laws.joined l.digits c.word-item.result c.bitor_assign.new.self c.bitor_assign.ensures.after in
    rw (joined, l.invariant) (more number l.word-index words c.word-item.result c.loop-word-test.true c.word-item.is (number l.digits))

pub returns : goal.returns
returns g c =
    let number = g.T.Word.number in
    let laws = g.met.T.Word.laws in
    let l = c.loop-word in
    let words = take (length c.args.array.now - c.min.result) (drop c.min.result c.args.array.now) in
    let zero = laws.none _ c.default.ensures in
    let same : c.eq.result ≡ eqb (number l.digits) 0 = rw (c.eq.ensures, laws.same l.digits c.default.result, zero) in
    rw (laws.each, l.invariant, past number l.word-index words c.loop-word-test.false, and-true) same
