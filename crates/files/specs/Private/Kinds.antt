-- The kinds of record as the code's enum `Kind` has them, for the contracts of private functions. Assumes nothing.
use Rattle.std.specs.Prelude.{ℕ, ◌≡◌, false, Result, Ok, Err}
use Rattle.board.specs.File.{known_kind}
use Rattle.board.specs.declared.Refusal.{Refusal}
use Rattle.board.specs.declared.Refusal.TheVariants as refusal
use Rattle.files.specs.declared.record.Kind.{Kind}
use Rattle.files.specs.declared.record.Kind.TheVariants as kind

-- the kind byte
abbrev pub kind_number : Kind → ℕ
kind_number kind.Count = 1
kind_number kind.Hypothesis = 2
kind_number kind.Rule = 3
kind_number kind.End = 4

-- the kind of a kind byte, or refusal 2: "kind byte not 1 to 4"
abbrev pub KindOf : ℕ → Result Kind Refusal → Type 0
KindOf byte (Ok k) = byte ≡ kind_number k
KindOf byte (Err r) = (known_kind byte ≡ false) × (r ≡ refusal.Kind)
