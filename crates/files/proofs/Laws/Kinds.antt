-- The kinds of record as the code's enum has them, and a record read from its body alone. Assumes nothing.
use mathlib.Core.Path.{◌≡◌, refl, sym, ap, ◌∙◌}
use mathlib.Core.Bool.{true}
use mathlib.Core.List.{List}
use Prim.Native.Nat.{ℕ, ◌+◌}
use native.Mathlib.Omega.{arith}
use lib.ListN.{drop, get_or}
use Rattle.std.proofs.lemmas.List.{get_or-drop, drop-drop}
use Rattle.board.specs.File.{known_kind, three_bytes, record_of}
use Rattle.files.specs.Private.Kinds.{kind_number}
use Rattle.files.specs.declared.record.Kind.{Kind}
use Rattle.files.specs.declared.record.Kind.TheVariants as kind

-- each of the four has a known kind byte
pub known_number : (k : Kind) → known_kind (kind_number k) ≡ true
unfolding known_kind
known_number kind.Count = refl
known_number kind.Hypothesis = refl
known_number kind.Rule = refl
known_number kind.End = refl

-- the record whose body begins at a place is that of the bytes from there on
pub record_of-drop : (kind : ℕ) (file : List ℕ) (at : ℕ) → record_of kind (drop at file) 0 ≡ record_of kind file at
unfolding record_of three_bytes
record_of-drop kind file at =
    let byte : (i j : ℕ) → j ≡ at + i → get_or (drop at file) i 0 ≡ get_or file j 0 = λ i j e. get_or-drop at file i 0 ∙ ap (λ k. get_or file k 0) (sym e) in
    rw (
      byte 0 at (omega arith),
      byte 1 (at + 1) refl,
      byte 2 (at + 2) refl,
      byte 3 (at + 2 + 1) (omega arith),
      byte 4 (at + 2 + 2) (omega arith),
      drop-drop 1 at file,
    )
