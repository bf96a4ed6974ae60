-- The first bytes of a file decide what loading answers: however a file goes on, no record that is read ends past `deciding_bytes`. Assumes nothing.
use Prim.Native.Nat.{ℕ, zero, suc, ◌+◌, ◌*◌, ◌≤◌, ◌<◌, min}
use native.Mathlib.Omega.{arith}
use native.Mathlib.Decide.{dec_le}
use mathlib.Core.Path.{◌≡◌, refl, sym, ap, ◌∙◌}
use mathlib.Core.Bool.{Bool, true, false, true≢false, false≢true}
use mathlib.Core.List.{List, [], ◌∷◌, ◌++◌, map, map-append}
use lib.ListN.{length, get_or, take, drop, length-append, length-map, length-drop, take-append-drop, get_or-append}
use lib.Seq.{length-take-le, take_all, take-append-le, drop-append-le}
use lib.Dec.{T, ltb, lt→ltb, ltb→lt}
use borrow.Author.Tests.{lt-ltb}
use Rattle.sets.specs.Lists.{all, distinct}
use Rattle.sets.proofs.Laws.Lists.{all_mono, empty_nil}
use Rattle.sets.proofs.Laws.Lists.Distinct.{distinct_snoc, distinct-room}
use Rattle.sets.proofs.Laws.Lists.Ends.{all_append}
use Rattle.sets.proofs.Laws.Tests.{and_both}
use Rattle.board.specs.Sizes.{most_atoms, most_rules, most_body}
use Rattle.board.specs.Answers.{accepted, refused_at}
use Rattle.board.specs.Board.{Board, Hypothesis, is_hypothesis}
use Rattle.board.specs.File.{Found, count, hypothesis, rule, body_bytes, known_kind, three_bytes, record_of, next_place, read_record}
use Rattle.board.specs.Load.{no_board, misplaced, misplaced_at, first_failing, field_checks, filled, taking, is_finish, at_the_end, load_from, load}
use Rattle.board.proofs.Laws.Board.{is_atom_of-among}
use Rattle.board.proofs.Laws.File.{body_bytes-le, read_unknown, read_whole, unknown_high}
use Rattle.board.proofs.Laws.Load.Checks.{HypothesisChecked, RuleChecked, count-checked, hypothesis-checked, rule-checked}
use Rattle.board.proofs.Laws.Load.Reading.{not-misplaced, placed-count, placed-hypothesis}
use Rattle.board.proofs.Laws.Load.Steps.{load-misplaced, load_unread, load_failing, load-finish, load-next}

-- no record of a file that decides the answer ends past this byte: the count's record, those of 127 hypotheses and of 256 rules, and one rule's record more
abbrev pub deciding_bytes : ℕ
deciding_bytes = 3334

-- ---- the place that is reached with a board

-- the atoms of a board's hypotheses
abbrev atoms_read : Board → List ℕ
atoms_read b = map (λ (h : Hypothesis). h.atom) b.hypotheses

-- the board read up to a place: its hypotheses are distinct atoms, and where there is a rule, its head is one atom more
record Reached (at : ℕ) (b : Board) : Type 0 where
  atoms_room : b.atoms ≤ most_atoms
  atoms_distinct : T (distinct (atoms_read b))
  atoms_below : T (all (λ a. ltb a b.atoms) (atoms_read b))
  rules_room : length b.rules ≤ most_rules
  head_left : 1 ≤ length b.rules → length b.hypotheses < b.atoms
  place : at ≤ 2 * min 1 b.atoms + 6 * length b.hypotheses + 10 * length b.rules

-- nothing is read yet
reached_none : Reached 0 no_board
unfolding no_board distinct all
reached_none = record { atoms_room = omega arith; atoms_distinct = tt; atoms_below = tt; rules_room = omega arith; head_left = λ l. absurd (omega arith); place = omega arith }

-- no more hypotheses than atoms
reached_hypotheses : (at : ℕ) (b : Board) → Reached at b → length b.hypotheses ≤ b.atoms
reached_hypotheses at b g = rw (length-map b.hypotheses (λ (h : Hypothesis). h.atom)) at (distinct-room b.atoms (atoms_read b) g.atoms_distinct g.atoms_below)

-- one atom more, which is no hypothesis
module _ (at : ℕ) (b : Board) (g : Reached at b) (a : ℕ) (l : a < b.atoms) (new : is_hypothesis b a ≡ false) where
  distinct_more : T (distinct (atoms_read b ++ (a ∷ [])))
  unfolding is_hypothesis
  distinct_more = distinct_snoc (atoms_read b) a g.atoms_distinct (sym (is_atom_of-among b.hypotheses a) ∙ new)

  below_more : T (all (λ a. ltb a b.atoms) (atoms_read b ++ (a ∷ [])))
  unfolding all
  below_more =
      rw (all_append (λ a. ltb a b.atoms) (atoms_read b) (a ∷ []))
      (and_both (all (λ a. ltb a b.atoms) (atoms_read b)) _ g.atoms_below (and_both (ltb a b.atoms) true (lt→ltb a b.atoms l) tt))

  -- leaves one hypothesis fewer
  fewer : length b.hypotheses < b.atoms
  fewer =
      omega (
        arith,
        distinct-room b.atoms (atoms_read b ++ (a ∷ [])) distinct_more below_more,
        length-append (atoms_read b) (a ∷ []),
        length-map b.hypotheses (λ (h : Hypothesis). h.atom),
      )

-- every record begins 10 bytes before the last that decides, or earlier
reached_at : (at : ℕ) (b : Board) → Reached at b → at + 10 ≤ deciding_bytes
reached_at at b g = by (dec_le 1 (length b.rules))
  where
    by : Dec (1 ≤ length b.rules) → at + 10 ≤ deciding_bytes
    by (yes l) = omega (arith, g.head_left l, g.atoms_room, g.rules_room, g.place)
    by (no f) = omega (arith, f, reached_hypotheses at b g, g.atoms_room, g.place)

-- ---- one record more

module _ (at : ℕ) (b : Board) (g : Reached at b) where
  reached_count : (n : ℕ) → b.atoms ≡ 0 → (1 ≤ n) × (n ≤ 128) → Reached (at + 1 + 1) (taking b (count n))
  unfolding taking
  reached_count n e l =
      record {
        atoms_room = l.1;
        atoms_distinct = g.atoms_distinct;
        atoms_below = all_mono (λ a. ltb a b.atoms) (λ a. ltb a n) (atoms_read b) (λ a m t. lt→ltb a n (omega (arith, ltb→lt a b.atoms t))) g.atoms_below;
        rules_room = g.rules_room;
        head_left = λ k. omega (arith, g.head_left k);
        place = omega (arith, g.place);
      }

  reached_hypothesis : (d a w : ℕ) → b.rules ≡ [] → HypothesisChecked b d a w → Reached (at + 1 + 5) (taking b (hypothesis d a w))
  unfolding taking
  reached_hypothesis d a w e c =
      record {
        atoms_room = g.atoms_room;
        atoms_distinct = rw (map-append (λ (h : Hypothesis). h.atom) b.hypotheses (new ∷ [])) (distinct_more at b g a c.atom_below c.new);
        atoms_below = rw (map-append (λ (h : Hypothesis). h.atom) b.hypotheses (new ∷ [])) (below_more at b g a c.atom_below c.new);
        rules_room = g.rules_room;
        head_left = λ k. absurd (omega (arith, ap length e));
        place = omega (arith, g.place, length-append b.hypotheses (new ∷ []));
      }
    where
      new : Hypothesis
      new = record { declaration = d; atom = a; weight = w }

  reached_rule : (h : ℕ) (places : List ℕ) → RuleChecked b h places → Reached (at + 1 + 9) (taking b (rule h places))
  unfolding taking
  reached_rule h places c =
      record {
        atoms_room = g.atoms_room;
        atoms_distinct = g.atoms_distinct;
        atoms_below = g.atoms_below;
        rules_room = omega (arith, c.room, more);
        head_left = λ k. fewer at b g h c.head_below c.head_no_hypothesis;
        place = omega (arith, g.place, more);
      }
    where
      more : length (b.rules ++ (record { head = h; body = filled places } ∷ [])) ≡ length b.rules + 1
      more = length-append b.rules (record { head = h; body = filled places } ∷ [])

-- a record that is read, placed and checked
reached_next : (file : List ℕ) (at : ℕ) (b : Board) → Reached at b → (kind : ℕ) → known_kind kind ≡ true → misplaced b kind ≡ false
    → first_failing (field_checks b (record_of kind file (at + 1))) ≡ 0 → is_finish (record_of kind file (at + 1)) ≡ false
    → Reached (next_place kind at) (taking b (record_of kind file (at + 1)))
unfolding record_of known_kind next_place body_bytes is_finish
reached_next file at b g zero k m c f = absurd (false≢true k)
reached_next file at b g (suc zero) k m c f = reached_count at b g _ (placed-count b m) (count-checked b _ c)
reached_next file at b g (suc (suc zero)) k m c f = reached_hypothesis at b g _ _ _ (empty_nil b.rules (placed-hypothesis b m)) (hypothesis-checked b _ _ _ c)
reached_next file at b g (suc (suc (suc zero))) k m c f = reached_rule at b g _ _ (rule-checked b _ _ c)
reached_next file at b g (suc (suc (suc (suc zero)))) k m c f = absurd (true≢false f)
reached_next file at b g (suc (suc (suc (suc (suc n))))) k m c f = absurd (true≢false (sym k ∙ unknown_high (suc (suc (suc (suc (suc n))))) (omega arith)))

-- the end record has no body
finish-next : (file : List ℕ) (at kind : ℕ) → known_kind kind ≡ true → is_finish (record_of kind file (at + 1)) ≡ true → next_place kind at ≡ at + 1 + 0
unfolding record_of known_kind next_place body_bytes is_finish
finish-next file at zero k f = absurd (false≢true k)
finish-next file at (suc zero) k f = absurd (false≢true f)
finish-next file at (suc (suc zero)) k f = absurd (false≢true f)
finish-next file at (suc (suc (suc zero))) k f = absurd (false≢true f)
finish-next file at (suc (suc (suc (suc zero)))) k f = refl
finish-next file at (suc (suc (suc (suc (suc n))))) k f = absurd (true≢false (sym k ∙ unknown_high (suc (suc (suc (suc (suc n))))) (omega arith)))

-- a byte after the end record
end_early : (file : List ℕ) (next : ℕ) (b : Board) → next < length file → at_the_end file next b ≡ refused_at 3 next
unfolding at_the_end
end_early file next b l = rw (lt-ltb next (length file) l)

-- ---- a file, and one that goes on after it

-- it is no shorter
longer : (front rest : List ℕ) → length front ≤ length (front ++ rest)
longer front rest = omega (arith, length-append front rest)

-- at a place with 10 bytes left both have the same record
module _ (front rest : List ℕ) (at : ℕ) (room : at + 10 ≤ length front) where
  there : at < length (front ++ rest)
  there = omega (arith, longer front rest)

  byte_same : (i : ℕ) → i < at + 10 → get_or (front ++ rest) i 0 ≡ get_or front i 0
  byte_same i k = get_or-append front rest 0 i (omega arith)

  kind_same : get_or (front ++ rest) at 0 ≡ get_or front at 0
  kind_same = byte_same at (omega arith)

  places_same : take most_body (drop (at + 1 + 1) (front ++ rest)) ≡ take most_body (drop (at + 1 + 1) front)
  places_same =
      ap (take most_body) (drop-append-le (at + 1 + 1) front rest (omega arith))
      ∙ take-append-le most_body (drop (at + 1 + 1) front) rest (rw (length-drop (at + 1 + 1) front) (omega arith))

  record_same : (kind : ℕ) → record_of kind (front ++ rest) (at + 1) ≡ record_of kind front (at + 1)
  unfolding record_of three_bytes
  record_same kind =
      rw (
        byte_same (at + 1) (omega arith),
        byte_same (at + 1 + 1) (omega arith),
        byte_same (at + 1 + 2) (omega arith),
        byte_same (at + 1 + 2 + 1) (omega arith),
        byte_same (at + 1 + 2 + 2) (omega arith),
        places_same,
      )

  misplaced-same : (b : Board) → misplaced_at (front ++ rest) at b ≡ misplaced_at front at b
  unfolding misplaced_at
  misplaced-same b = rw (kind_same, lt-ltb at (length front) (omega arith), lt-ltb at (length (front ++ rest)) there)

  -- what is read there, if its kind is known
  here : Found
  here = record { found = record_of (get_or front at 0) front (at + 1); next = next_place (get_or front at 0) at }

  whole : next_place (get_or front at 0) at ≤ length front
  unfolding next_place
  whole = omega (arith, body_bytes-le (get_or front at 0))

  read_here : known_kind (get_or front at 0) ≡ true → read_record front at ≡ accepted here
  unfolding here
  read_here k = read_whole front at (omega arith) k whole

  read_same : known_kind (get_or front at 0) ≡ true → read_record (front ++ rest) at ≡ accepted here
  unfolding here
  read_same k =
      rw (kind_same, record_same (get_or front at 0)) at
      (read_whole (front ++ rest) at there (rw kind_same k) (rw kind_same (omega (arith, whole, longer front rest))))

  -- both have the same answer from there, if they have from every later place
  module _ (b : Board) (g : Reached at b) (n m : ℕ)
      (later : (next : ℕ) (c : Board) → Reached next c → at < next → load_from n (front ++ rest) next c ≡ load_from m front next c) where
    same-checked : misplaced_at front at b ≡ false → misplaced_at (front ++ rest) at b ≡ false → known_kind (get_or front at 0) ≡ true
        → (f : ℕ) → first_failing (field_checks b here.found) ≡ f → (t : Bool) → is_finish here.found ≡ t
        → load_from (suc n) (front ++ rest) at b ≡ load_from (suc m) front at b
    unfolding here next_place
    same-checked p q k (suc f) c t i = load_failing n (front ++ rest) at b here q (read_same k) f c ∙ sym (load_failing m front at b here p (read_here k) f c)
    same-checked p q k zero c true i =
        let next : here.next ≡ at + 1 + 0 = finish-next front at (get_or front at 0) k i in
        load-finish n (front ++ rest) at b here q (read_same k) c i
        ∙ end_early (front ++ rest) here.next b (omega (arith, longer front rest))
        ∙ sym (load-finish m front at b here p (read_here k) c i ∙ end_early front here.next b (omega arith))
    same-checked p q k zero c false i =
        load-next n (front ++ rest) at b here q (read_same k) c i
        ∙ later here.next (taking b here.found) (reached_next front at b g (get_or front at 0) k (not-misplaced front at b p (omega arith) k) c i) (omega arith)
        ∙ sym (load-next m front at b here p (read_here k) c i)

    same_read : misplaced_at front at b ≡ false → misplaced_at (front ++ rest) at b ≡ false → (t : Bool) → known_kind (get_or front at 0) ≡ t
        → load_from (suc n) (front ++ rest) at b ≡ load_from (suc m) front at b
    same_read p q true k = same-checked p q k (first_failing (field_checks b here.found)) refl (is_finish here.found) refl
    same_read p q false k =
        load_unread n (front ++ rest) at b 2 at q (read_unknown (front ++ rest) at there (rw kind_same k))
        ∙ sym (load_unread m front at b 2 at p (read_unknown front at (omega arith) k))

    same-placed : (t : Bool) → misplaced_at front at b ≡ t → load_from (suc n) (front ++ rest) at b ≡ load_from (suc m) front at b
    same-placed true p = load-misplaced n (front ++ rest) at b (misplaced-same b ∙ p) ∙ sym (load-misplaced m front at b p)
    same-placed false p = same_read p (misplaced-same b ∙ p) (known_kind (get_or front at 0)) refl

-- ---- the law

module _ (front rest : List ℕ) (enough : deciding_bytes ≤ length front) where
  -- the answer is the same from every place that is reached
  same_from : (n m at : ℕ) (b : Board) → Reached at b → deciding_bytes < n + at → deciding_bytes < m + at → load_from n (front ++ rest) at b ≡ load_from m front at b
  same_from zero m at b g j k = absurd (omega (arith, reached_at at b g))
  same_from (suc n) zero at b g j k = absurd (omega (arith, reached_at at b g))
  same_from (suc n) (suc m) at b g j k =
      same-placed front rest at (omega (arith, reached_at at b g)) b g n m (λ next c h l. same_from n m next c h (omega arith) (omega arith)) (misplaced_at front at b) refl

  -- what comes after the bytes that decide changes nothing
  load-append : load (front ++ rest) ≡ load front
  unfolding load
  load-append = same_from (suc (length (front ++ rest))) (suc (length front)) 0 no_board reached_none (omega (arith, longer front rest)) (omega arith)

-- the first bytes of a file decide what loading answers
pub load-take : (n : ℕ) → deciding_bytes ≤ n → (file : List ℕ) → load (take n file) ≡ load file
load-take n h file = by (dec_le (length file) n)
  where
    by : Dec (length file ≤ n) → load (take n file) ≡ load file
    by (yes l) = ap load (take_all n file l)
    by (no f) = sym (load-append (take n file) (drop n file) (rw (length-take-le n file (omega arith)) h)) ∙ ap load (take-append-drop n file)
