-- How much of a file and of an input decides what is printed: "A file that will not open counts as empty; input beyond the allowance is ignored". A file has no
-- longest length, so a program cannot read all of it. Assumes nothing.
use Rattle.std.specs.Prelude.{ℕ, ◌≡◌, List, T, take}
use Rattle.std.proofs.Math.Option.{some}
use Rattle.std.proofs.Math.Pow.{are_bytes}
use Rattle.search.specs.Listing.{listing}

-- the records of a count, of 127 hypotheses and of 256 rules, and one rule's record more: 2 + 6 * 127 + 10 * 256 + 10
abbrev pub file_bytes : ℕ
file_bytes = 3334

-- a count byte, the atoms of the largest question, a two-byte allowance: any larger count is refused with 21, whether the input is too short for it or not
abbrev pub input_bytes : ℕ
input_bytes = 11

-- what is printed for the beginning of a file and of an input is what is printed for the whole
abbrev pub Decided : Type 0
Decided =
    (file input : List ℕ) → T (are_bytes file)
    → listing (some (take file_bytes file)) (take input_bytes input) ≡ listing (some file) input
