-- Which boards are accepted, sentence by sentence: document 01, "Board tables and board states" and "The board file". This is what may be relied on of
-- a loaded table. `Load` says the same file by file, refusal by refusal; the law `accepted_iff` says that a board is accepted exactly if some file loads
-- to it. Assumes nothing.
use Rattle.std.specs.Prelude.{ℕ, suc, ◌≤◌, ◌<◌, ◌≡◌, false, ◌⊎◌, T, length}
use mathlib.Core.List.{List, ◌∷◌, ◌++◌, map, Memᴰ}
use Rattle.sets.specs.Lists.{ascending, distinct}
use Rattle.board.specs.Sizes.{most_atoms, most_declarations, most_hypotheses, most_weight, most_rules, most_body, most_w}
use Rattle.board.specs.Board.{Board, Hypothesis, Rule, declarations_in, declarations, is_hypothesis, W}

-- one of the hypotheses of a board with so many atoms
pub record AcceptedHypothesis (atoms : ℕ) (h : Hypothesis) : Type 0 where
  -- "atoms, numbered from 0": below the count
  pub atom_below : h.atom < atoms
  -- "whole weights 1 to 16,777,215"
  pub weight_positive : 1 ≤ h.weight
  pub weight_room : h.weight ≤ most_weight

-- one of the rules of a board
pub record AcceptedRule (b : Board) (r : Rule) : Type 0 where
  -- "atoms, numbered from 0": below the count
  pub head_below : r.head < b.atoms
  -- a hypothesis "heads no rule"
  pub head_no_hypothesis : is_hypothesis b r.head ≡ false
  -- "0 to 8 body atoms"
  pub body_room : length r.body ≤ most_body
  -- "Body atoms are below the head"
  pub body_below : (a : ℕ) → Memᴰ a r.body → a < r.head
  -- "strictly ascending"
  pub body_ascending : T (ascending r.body)

-- the sentences together
pub record Accepted (b : Board) : Type 0 where
  -- "A table has 1 to 128 atoms"
  pub atoms_positive : 1 ≤ b.atoms
  pub atoms_room : b.atoms ≤ most_atoms
  -- "0 to 32 declarations"
  pub declarations_room : declarations_in b.hypotheses ≤ most_declarations
  -- "each of 1 to 16 hypotheses"
  pub declaration_positive : (d : List Hypothesis) → Memᴰ d (declarations b) → 1 ≤ length d
  pub declaration_room : (d : List Hypothesis) → Memᴰ d (declarations b) → length d ≤ most_hypotheses
  -- "hypotheses with whole weights 1 to 16,777,215"
  pub hypothesis : (h : Hypothesis) → Memᴰ h b.hypotheses → AcceptedHypothesis b.atoms h
  -- "A hypothesis is an atom in exactly one declaration"
  pub atoms_distinct : T (distinct (map (λ (h : Hypothesis). h.atom) b.hypotheses))
  -- "Declaration numbers begin at 0, and each record repeats the last one's number or adds 1": after n declarations, n - 1 or n
  pub numbered : (before : List Hypothesis) (h : Hypothesis) (after : List Hypothesis) → b.hypotheses ≡ before ++ (h ∷ after)
      → (suc h.declaration ≡ declarations_in before) ⊎ (h.declaration ≡ declarations_in before)
  -- "0 to 256 rules"
  pub rules_room : length b.rules ≤ most_rules
  -- "each with a head and 0 to 8 body atoms"
  pub rule : (r : Rule) → Memᴰ r b.rules → AcceptedRule b r
  -- "W is .. at most 1,000,000,000,000,000"
  pub weight : W b ≤ most_w
