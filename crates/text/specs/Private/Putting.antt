-- Text put together from the left, piece by piece, in lent bytes. Assumes nothing.
use Rattle.std.specs.Prelude.{ℕ, ◌+◌, ◌≤◌, ◌≡◌, length, take, drop}
use mathlib.Core.List.{List, ◌++◌, map, flatten}
use Rattle.sets.specs.Lists.{below}
use Rattle.search.specs.Listing.{line_text}
use Rattle.search.specs.Layout.{line_in}
use Rattle.text.specs.declared.put.Writer.{Writer}

-- there is room for a piece at the place where the next one is put
abbrev pub HasRoom : Writer → List ℕ → Type 0
HasRoom writer piece = writer.at + length piece ≤ length writer.text.now

-- what putting a piece leaves: the same bytes are lent, and the place is the one after the piece; up to it stand the bytes before the piece and the piece, and
-- from it on all is as it was
pub record Puts (before : Writer) (piece : List ℕ) (after : Writer) : Type 0 where
  pub lent : after.text.ghost_name ≡ before.text.ghost_name
  pub next : after.at ≡ before.at + length piece
  pub front : take after.at after.text.now ≡ take before.at before.text.now ++ piece
  pub behind : (n : ℕ) → after.at ≤ n → drop n after.text.now ≡ drop n before.text.now
  pub same : length after.text.now ≡ length before.text.now

-- the text of the first n lines of the array
abbrev pub lines_text : List ℕ → ℕ → List ℕ
lines_text line n = flatten (map (λ i. line_text (line_in line i)) (below n))
