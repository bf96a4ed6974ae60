-- What holds by the rules alone that the code lends, and the answers that it has found so far: for the contracts of private functions.
-- `holds` asks a board for its rules alone, so it is stated of a board that has no more.
-- Assumes nothing.
use Rattle.std.specs.Prelude.{◌≡◌, Bool, ℕ, ◌*◌, ◌≤◌, ◌<◌, length, get_or, Option, None}
use Rattle.std.specs.Option.{ForSome}
use mathlib.Core.List.{List, [], Memᴰ}
use Rattle.board.specs.Sizes.{most_atoms, most_rules, most_body}
use Rattle.board.specs.Board.{Board, Rule}
use Rattle.board.specs.Holds.{holds, in_state}
use Rattle.board.specs.Table.{rules_in}

-- a board that has these rules and nothing else
abbrev pub rules_alone : List Rule → Board
rules_alone rules = record { atoms = 0; hypotheses = []; rules = rules }

-- what holds in a state by the first n of the rules that are lent
abbrev pub lent_holds : List ℕ → List ℕ → ℕ → List ℕ → ℕ → Bool
lent_holds head body n state = holds (in_state state) (rules_alone (rules_in head body n))

-- the rules that are lent are few, have room for their bodies, atoms for heads, and body atoms below their heads
pub record SoundRules (head body : List ℕ) (n : ℕ) : Type 0 where
  pub few : n ≤ most_rules
  pub room : most_body * n ≤ length body
  pub heads : (i : ℕ) → i < n → get_or head i 0 < most_atoms
  pub low : (r : Rule) → Memᴰ r (rules_in head body n) → (a : ℕ) → Memᴰ a r.body → a < r.head

-- what was found of an atom that was asked is whether it holds
pub record Remembered (holding : ℕ → Bool) (known : List (Option Bool)) : Type 0 where
  pub right : (x : ℕ) → ForSome (get_or known x None) (λ found. found ≡ holding x)
