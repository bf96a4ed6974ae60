-- What the checks of a record know of the records before it, for the contracts of private functions. Assumes nothing.
use Rattle.std.specs.Prelude.{◌≡◌, ℕ, pred, true, false, List, [], length, Option, Some, None}
use Rattle.sets.specs.Sets.{set_of}
use Rattle.sets.specs.Masks.{mask_means}
use Rattle.board.specs.Board.{Board, Hypothesis, declarations_in, declaration}
use Rattle.board.specs.Holds.{atoms_of}
use Rattle.files.specs.declared.checks.Seen.{Seen}
use Rattle.board.specs.Private.Passes.{hypotheses_pass}

-- how many atoms and rules the board has, how many declarations, how many of its hypotheses are of the last one, and the set of the hypotheses' atoms
pub record SeenOf (b : Board) (s : Seen) : Type 0 where
  pub atoms : s.atoms ≡ b.atoms
  pub rules : s.rules ≡ length b.rules
  pub declarations : s.declarations ≡ declarations_in b.hypotheses
  pub last : s.last ≡ length (declaration b.hypotheses (pred (declarations_in b.hypotheses)))
  pub hypotheses : mask_means s.hypotheses ≡ set_of (atoms_of b.hypotheses)

-- what is known of so many atoms and the hypotheses if these pass one after another
abbrev pub Passing : ℕ → List Hypothesis → Option Seen → Type 0
Passing atoms hs (Some s) = (hypotheses_pass atoms [] hs ≡ true) × SeenOf (record { atoms = atoms; hypotheses = hs; rules = [] }) s
Passing atoms hs None = hypotheses_pass atoms [] hs ≡ false
