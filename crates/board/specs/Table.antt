-- The struct `Table` of the code, and what it means. Document 01: "The table keeps the records' order." Each list of a board stands in arrays,
-- one array a field, with a count beside them; unused room is zero, and an empty body place of a rule is 255 as in the file.
-- Refusal 20 is for "a table handed in that no file loads to": one for which there is no `Loads` below. `is_table` is the test that the entry points
-- cite: the table, written out as a file, loads to itself. Assumes nothing.
use Rattle.std.specs.Prelude.{ℕ, ◌*◌, ◌≡◌, Bool, false, ◌&&◌, T, eqb, length, get_or, take, drop, replicate}
use mathlib.Core.List.{List, [], ◌∷◌, ◌++◌, map, flatten}
use Rattle.std.proofs.Math.Pow.{are_bytes}
use Rattle.sets.specs.Lists.{pad, below, same_numbers}
use Rattle.board.specs.Sizes.{most_atoms, most_rules, most_body, empty_place}
use Rattle.board.specs.Answers.{FileAnswer, accepted, refused_at}
use Rattle.board.specs.Board.{Board, Hypothesis, Rule}
use Rattle.board.specs.File.{low_bytes}
use Rattle.board.specs.Load.{load, filled}
use Rattle.board.specs.declared.Table.{Table}

-- ---- from a table to its board

-- the hypothesis at index i of the arrays of declaration numbers, atoms and weights: "A hypothesis is an atom in exactly one declaration", with a weight
abbrev pub hypothesis_in : List ℕ → List ℕ → List ℕ → ℕ → Hypothesis
hypothesis_in declaration atom weight i = record { declaration = get_or declaration i 0; atom = get_or atom i 0; weight = get_or weight i 0 }

-- the eight places of rule i, as many as the file has for "0 to 8 body atoms"
abbrev pub places_in : List ℕ → ℕ → List ℕ
places_in body i = take most_body (drop (most_body * i) body)

-- the rule at index i: "a head and 0 to 8 body atoms", those of its places that are filled; "255 is an empty place"
abbrev pub rule_in : List ℕ → List ℕ → ℕ → Rule
rule_in head body i = record { head = get_or head i 0; body = filled (places_in body i) }

-- the first n hypotheses: "The table keeps the records' order."
unfoldable pub hypotheses_in : List ℕ → List ℕ → List ℕ → ℕ → List Hypothesis
hypotheses_in declaration atom weight n = map (hypothesis_in declaration atom weight) (below n)

-- the first n rules, in their order too
unfoldable pub rules_in : List ℕ → List ℕ → ℕ → List Rule
rules_in head body n = map (rule_in head body) (below n)

-- the board of the first n hypotheses, with so many atoms and these rules: for contracts of functions that are lent the arrays of the hypotheses alone
abbrev pub board_in : ℕ → List ℕ → List ℕ → List ℕ → ℕ → List Rule → Board
board_in atoms declaration atom weight n rules =
    record { atoms = atoms; hypotheses = hypotheses_in declaration atom weight n; rules = rules }

-- the board that a table holds
unfoldable pub board_of : Table → Board
board_of t =
    board_in t.atoms t.declaration t.atom t.weight t.hypotheses (rules_in t.head t.body t.rules)

-- ---- from a board to its table

-- the eight places of a body
unfoldable pub places_of : Rule → List ℕ
places_of r = pad most_body empty_place r.body

-- the table that holds a board: "The table keeps the records' order."
unfoldable pub table_of : Board → Table
table_of b =
    record {
      atoms = b.atoms;
      hypotheses = length b.hypotheses;
      rules = length b.rules;
      declaration = pad most_atoms 0 (map (λ (h : Hypothesis). h.declaration) b.hypotheses);
      atom = pad most_atoms 0 (map (λ (h : Hypothesis). h.atom) b.hypotheses);
      weight = pad most_atoms 0 (map (λ (h : Hypothesis). h.weight) b.hypotheses);
      head = pad most_rules 0 (map (λ (r : Rule). r.head) b.rules);
      body = pad (most_body * most_rules) 0 (flatten (map places_of b.rules));
    }

-- "the table whose every field is zero"
unfoldable pub zero_table : Table
zero_table =
    record {
      atoms = 0;
      hypotheses = 0;
      rules = 0;
      declaration = replicate most_atoms 0;
      atom = replicate most_atoms 0;
      weight = replicate most_atoms 0;
      head = replicate most_rules 0;
      body = replicate (most_body * most_rules) 0;
    }

-- what loading hands back: "A refused load returns the table whose every field is zero."
unfoldable pub table_in : FileAnswer Board → Table
table_in (accepted b) = table_of b
table_in (refused_at number place) = zero_table

-- ---- which tables some file loads to

-- some file loads to t
pub record Loads (t : Table) : Type 0 where
  pub file : List ℕ
  pub bytes : T (are_bytes file)
  pub board : Board
  pub loaded : load file ≡ accepted board
  pub stored : t ≡ table_of board

-- a hypothesis as a record of kind 2: "declaration, atom, weight in 3 bytes, low byte first"
unfoldable pub hypothesis_bytes : Hypothesis → List ℕ
hypothesis_bytes h = 2 ∷ h.declaration ∷ h.atom ∷ low_bytes 3 h.weight

-- a rule as a record of kind 3: "head, then 8 places for body atoms"
unfoldable pub rule_bytes : Rule → List ℕ
rule_bytes r = 3 ∷ r.head ∷ places_of r

-- the file that says what the board says, record by record
unfoldable pub file_of : Board → List ℕ
file_of b =
    (1 ∷ b.atoms ∷ [])
    ++ flatten (map hypothesis_bytes b.hypotheses)
    ++ flatten (map rule_bytes b.rules)
    ++ (4 ∷ [])

-- every field is the same
unfoldable pub same_table : Table → Table → Bool
same_table t u =
    eqb t.atoms u.atoms
    && eqb t.hypotheses u.hypotheses
    && eqb t.rules u.rules
    && same_numbers t.declaration u.declaration
    && same_numbers t.atom u.atom
    && same_numbers t.weight u.weight
    && same_numbers t.head u.head
    && same_numbers t.body u.body

-- loading answered this very table
unfoldable pub loads_to : FileAnswer Board → Table → Bool
loads_to (accepted b) t = same_table (table_of b) t
loads_to (refused_at number place) t = false

-- the table, written out as a file of bytes, loads to itself
unfoldable pub is_table : Table → Bool
is_table t = are_bytes (file_of (board_of t)) && loads_to (load (file_of (board_of t))) t
