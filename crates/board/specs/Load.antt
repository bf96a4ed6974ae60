-- Loading: document 01, "The board file" and the rows 1 to 12 of "What the scope says no to".
-- "Order in loading, at one record: no byte left, 1; unknown kind, 2; wrong place, 3; body too short, 1; then the field checks in ascending
-- number. A byte after the end record is 3, even if its kind is unknown. The first failing record decides. Refusal 8 is checked at the end
-- record. The place is the record's first byte, or the file's length if no byte is left."
-- What has been read so far is a board; one with no atoms has not had its count yet, since a count of 0 is refused.
-- Assumes nothing.
use Rattle.std.specs.Prelude.{ℕ, zero, suc, Bool, true, false, not, ◌&&◌, ◌||◌, cond, List, [], ◌∷◌, ◌++◌, leb, ltb, eqb, length, get_or}
use Rattle.sets.specs.Lists.{any, keep, is_empty, ascending}
use Rattle.board.specs.Sizes.{most_atoms, most_declarations, most_hypotheses, most_rules, most_w, empty_place}
use Rattle.board.specs.Board.{Board, declarations_in, declaration, is_hypothesis, W}
use Rattle.board.specs.File.{Record, Found, count, hypothesis, rule, finish, known_kind, read_record}
use Rattle.board.specs.Answers.{FileAnswer, accepted, refused_at}

-- the board before the first record
unfoldable pub no_board : Board
no_board = record { atoms = 0; hypotheses = []; rules = [] }

-- 3: "first record not kind 1, a second kind 1, kind 2 after kind 3"
unfoldable pub misplaced : Board → ℕ → Bool
misplaced b kind =
    cond (eqb b.atoms 0) (not (eqb kind 1)) (eqb kind 1 || (eqb kind 2 && not (is_empty b.rules)))

-- the place holds a record of a known kind that is misplaced
unfoldable pub misplaced_at : List ℕ → ℕ → Board → Bool
misplaced_at file at b = ltb at (length file) && known_kind (get_or file at 0) && misplaced b (get_or file at 0)

-- the filled places of a rule's record
unfoldable pub filled : List ℕ → List ℕ
filled places = keep (λ p. not (eqb p empty_place)) places

-- "Filled places come first": no filled place after an empty one
unfoldable pub filled_first : List ℕ → Bool
filled_first [] = true
filled_first (p ∷ rest) = cond (eqb p empty_place) (is_empty (filled rest)) (filled_first rest)

-- a field check: its number, and whether it fails
pub record Check : Type 0 where
  pub number : ℕ
  pub fails : Bool

-- the number of the first check that fails; 0 where none does
unfoldable pub first_failing : List Check → ℕ
first_failing [] = 0
first_failing (c ∷ rest) = cond c.fails c.number (first_failing rest)

-- The field checks of a record "in ascending number", each as its row of the table says
unfoldable pub field_checks : Board → Record → List Check
field_checks b (count n) = record { number = 4; fails = eqb n 0 || ltb most_atoms n } ∷ []
field_checks b (hypothesis d a w) =
    let next = declarations_in b.hypotheses in
    record { number = 4; fails = leb b.atoms a }
    ∷ record { number = 5; fails = leb most_declarations d || not (eqb (suc d) next || eqb d next) }
    ∷ record { number = 6; fails = is_hypothesis b a || leb most_hypotheses (length (declaration b.hypotheses d)) }
    ∷ record { number = 7; fails = eqb w 0 }
    ∷ []
field_checks b (rule h places) =
    record { number = 4; fails = leb b.atoms h || any (leb b.atoms) (filled places) }
    ∷ record { number = 9; fails = not (filled_first places && ascending (filled places)) }
    ∷ record { number = 10; fails = is_hypothesis b h }
    ∷ record { number = 11; fails = any (leb h) (filled places) }
    ∷ record { number = 12; fails = leb most_rules (length b.rules) }
    ∷ []
field_checks b finish = record { number = 8; fails = ltb most_w (W b) } ∷ []

-- the board with one record more
unfoldable pub taking : Board → Record → Board
taking b (count n) = record { atoms = n; hypotheses = b.hypotheses; rules = b.rules }
taking b (hypothesis d a w) =
    record {
      atoms = b.atoms;
      hypotheses = b.hypotheses ++ (record { declaration = d; atom = a; weight = w } ∷ []);
      rules = b.rules;
    }
taking b (rule h places) =
    record {
      atoms = b.atoms;
      hypotheses = b.hypotheses;
      rules = b.rules ++ (record { head = h; body = filled places } ∷ []);
    }
taking b finish = b

-- kind 4, "end; nothing follows"
unfoldable pub is_finish : Record → Bool
is_finish (count n) = false
is_finish (hypothesis d a w) = false
is_finish (rule h places) = false
is_finish finish = true

-- after the end record: "nothing follows"
unfoldable pub at_the_end : List ℕ → ℕ → Board → FileAnswer Board
at_the_end file next b = cond (ltb next (length file)) (refused_at 3 next) (accepted b)

-- an accepted answer leads on, a refusal stands: "The first failing record decides."
unfoldable pub passing : {A B : Type 0} → FileAnswer A → (A → FileAnswer B) → FileAnswer B
passing (accepted x) next = next x
passing (refused_at number place) next = refused_at number place

-- the record at a place, if it passes: "no byte left, 1; unknown kind, 2; wrong place, 3; body too short, 1; then the field checks". 3 is told of a record of
-- known kind alone (`misplaced_at`), so no byte left and an unknown kind go before it.
unfoldable pub checked : List ℕ → ℕ → Board → FileAnswer Found
checked file at b =
    cond (misplaced_at file at b) (refused_at 3 at)
    (passing (read_record file at) (λ r.
    let number = first_failing (field_checks b r.found) in
    cond (eqb number 0) (accepted r) (refused_at number at)))

-- loading from a place on, over at most n records
unfoldable pub load_from : ℕ → List ℕ → ℕ → Board → FileAnswer Board
load_from zero file at b = refused_at 1 (length file)
load_from (suc n) file at b =
    passing (checked file at b) (λ r.
    cond (is_finish r.found) (at_the_end file r.next b) (load_from n file r.next (taking b r.found)))

-- A record takes a byte at least, so a file has no more records than bytes
unfoldable pub load : List ℕ → FileAnswer Board
load file = load_from (suc (length file)) file 0 no_board
