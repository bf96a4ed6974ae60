-- The file that a board is written to: each of its records is read back, and an accepted board is loaded back. Assumes nothing.
use mathlib.Core.Path.{◌≡◌, refl, ap, ◌∙◌}
use Prim.Native.Nat.{ℕ, suc, ◌+◌, ◌-◌, ◌*◌, ◌/◌, ◌%◌, ◌^◌, ◌≤◌, ◌<◌}
use native.Mathlib.Nat.{add_assoc, zero-add, add-zero, suc-add}
use native.Mathlib.Omega.{arith}
use mathlib.Core.Bool.{Bool, false, and-false}
use mathlib.Core.List.{List, [], ◌∷◌, ◌++◌, map, flatten, append_assoc, append-nil}
use lib.Dec.{T, eqb}
use lib.ListN.{length, get_or, length-append}
use lib.Seq.{get_or-append_seam, get_or-append-add, drop-append-add, take_at}
use borrow.Author.Tests.{le-ltb, ne_eqb}
use Rattle.sets.specs.Lists.{is_empty}
use Rattle.sets.proofs.Laws.Lists.Flatten.{length-le_flatten}
use Rattle.sets.proofs.Laws.Tests.{and_left, and_right}
use Rattle.board.specs.Answers.{accepted}
use Rattle.board.specs.Board.{Board, Hypothesis, Rule}
use Rattle.board.specs.File.{count, hypothesis, rule, finish, body_bytes, three_bytes, low_bytes, record_of, next_place, read_record}
use Rattle.board.proofs.Laws.File.{read_whole, known}
use Rattle.board.specs.Load.{no_board, misplaced, misplaced_at, field_checks, first_failing, filled, taking, is_finish, at_the_end, load_from, load}
use Rattle.board.proofs.Laws.Load.Hypotheses.{after, hypothesis_passes-zero, hypothesis_passes-weight}
use Rattle.board.proofs.Laws.Load.{so_far-atoms, so_far-hypotheses, so_far-rules}
use Rattle.board.proofs.Laws.Load.Rules.{after_rules, rule_passes-zero, rule_passes-length, rule_passes-atoms}
use Rattle.board.proofs.Laws.Load.Steps.{load-finish, load-next}
use Rattle.board.specs.Table.{places_of, hypothesis_bytes, rule_bytes, file_of}
use Rattle.board.specs.Accepted.{Accepted}
use Rattle.board.proofs.Laws.Accepted.Passing.{accepted-passes}
use Rattle.board.specs.Private.Passes.{each_passes, hypothesis_passes}
use Rattle.board.proofs.Laws.Load.Passes.{rule_passes}
use Rattle.board.proofs.Laws.Filled.{length-places_of, filled-places_of}

-- ---- the records' lengths

-- a rule takes 10, if its body has 8 atoms at most
pub length-rule_bytes : (r : Rule) → length r.body ≤ 8 → length (rule_bytes r) ≡ 10
unfolding rule_bytes
length-rule_bytes r l = ap (λ (n : ℕ). suc (suc n)) (length-places_of r l)

-- ---- one record read back

-- what stands before a record does not matter to the record
record_of-after : (kind : ℕ) (front file : List ℕ) (at : ℕ) → record_of kind (front ++ file) (length front + at) ≡ record_of kind file at
unfolding record_of three_bytes
record_of-after kind front file at = simp (add_assoc, get_or-append-add, drop-append-add)

-- a record of a known kind with its whole body behind it is read
pub read_at : (front : List ℕ) (kind : ℕ) (rest : List ℕ) → 1 ≤ kind → kind ≤ 4 → body_bytes kind ≤ length rest
    → read_record (front ++ kind ∷ rest) (length front)
    ≡ accepted (record { found = record_of kind (kind ∷ rest) 1; next = length front + (1 + body_bytes kind) })
unfolding next_place
read_at front kind rest l h s =
    let e : get_or (front ++ kind ∷ rest) (length front) 0 ≡ kind = get_or-append_seam front kind rest 0 in
    read_whole (front ++ kind ∷ rest) (length front) (rw length-append (omega arith)) (rw e (known kind l h)) (rw (e, length-append) (omega arith))
    ∙ rw (e, record_of-after, add_assoc)

-- the count
pub read_count : (front : List ℕ) (n : ℕ) (rest : List ℕ)
    → read_record (front ++ 1 ∷ n ∷ rest) (length front) ≡ accepted (record { found = count n; next = length front + 2 })
unfolding body_bytes record_of
read_count front n rest = read_at front 1 (n ∷ rest) (omega arith) (omega arith) (omega arith)

-- a hypothesis, if its weight has 3 bytes
pub read-hypothesis : (front : List ℕ) (h : Hypothesis) (rest : List ℕ) → h.weight < 2 ^ 24
    → read_record (front ++ (hypothesis_bytes h ++ rest)) (length front)
    ≡ accepted (record { found = hypothesis h.declaration h.atom h.weight; next = length front + 6 })
unfolding body_bytes record_of three_bytes hypothesis_bytes low_bytes
read-hypothesis front h rest l =
    let w : ℕ = h.weight in
    let e : w % 256 + 256 * (w / 256 % 256) + 65536 * (w / 256 / 256 % 256) ≡ w = omega arith in
    read_at front 2 (h.declaration ∷ h.atom ∷ w % 256 ∷ w / 256 % 256 ∷ w / 256 / 256 % 256 ∷ rest) (omega arith) (omega arith) (omega arith)
    ∙ rw e

-- a rule, if its body has 8 atoms at most
pub read-rule : (front : List ℕ) (r : Rule) (rest : List ℕ) → length r.body ≤ 8
    → read_record (front ++ (rule_bytes r ++ rest)) (length front) ≡ accepted (record { found = rule r.head (places_of r); next = length front + 10 })
unfolding body_bytes record_of rule_bytes
read-rule front r rest l =
    let s : length (places_of r) ≡ 8 = length-places_of r l in
    read_at front 3 (r.head ∷ (places_of r ++ rest)) (omega arith) (omega arith) (rw length-append (omega arith)) ∙ rw (take_at (places_of r) rest 8 s)

-- the end
pub read_end : (front rest : List ℕ) → read_record (front ++ 4 ∷ rest) (length front) ≡ accepted (record { found = finish; next = length front + 1 })
unfolding body_bytes record_of
read_end front rest = read_at front 4 rest (omega arith) (omega arith) (omega arith)

-- ---- one step of loading

-- a kind that is not misplaced
placed : (front : List ℕ) (kind : ℕ) (rest : List ℕ) (b : Board) → misplaced b kind ≡ false → misplaced_at (front ++ kind ∷ rest) (length front) b ≡ false
unfolding misplaced_at
placed front kind rest b m = rw (get_or-append_seam front kind rest 0, m, and-false)

-- the end record ends it
load_end : (n : ℕ) (file : List ℕ) (at : ℕ) (b : Board) (next : ℕ)
    → misplaced_at file at b ≡ false → read_record file at ≡ accepted (record { found = finish; next = next })
    → first_failing (field_checks b finish) ≡ 0 → length file ≤ next → load_from (suc n) file at b ≡ accepted b
unfolding is_finish at_the_end
load_end n file at b next m e f l = load-finish n file at b _ m e f refl ∙ rw (le-ltb next (length file) l)

-- a run of records, each of which is taken after those before it
module _ {A : Type 0} (bytes : A → List ℕ) (passes : List A → A → Bool) (after : List A → Board)
    (step : (before : List A) (x : A) (n : ℕ) (front rest : List ℕ) → T (passes before x)
    → load_from (suc n) (front ++ (bytes x ++ rest)) (length front) (after before)
    ≡ load_from n (front ++ (bytes x ++ rest)) (length front + length (bytes x)) (after (before ++ (x ∷ [])))) where
  load-run : (n : ℕ) (front rest : List ℕ) (before xs : List A) → T (each_passes passes before xs)
      → load_from (length xs + n) (front ++ (flatten (map bytes xs) ++ rest)) (length front) (after before)
      ≡ load_from n (front ++ (flatten (map bytes xs) ++ rest)) (length front + length (flatten (map bytes xs))) (after (before ++ xs))
  unfolding flatten each_passes
  load-run n front rest before [] t = rw (append-nil before, zero-add, add-zero)
  load-run n front rest before (x ∷ xs) t =
      simp (append_assoc, length-append, suc-add)
      (step before x (length xs + n) front (flatten (map bytes xs) ++ rest) (and_left (passes before x) _ t)
      ∙ (simp (append_assoc, length-append, add_assoc) at (load-run n (front ++ bytes x) rest (before ++ (x ∷ [])) xs (and_right (passes before x) _ t))))

-- ---- an accepted board

module _ {b : Board} (k : Accepted b) where
  -- where the count has been read, no hypothesis is misplaced before the rules, no rule and no end
  counted : eqb b.atoms 0 ≡ false
  counted = ne_eqb b.atoms 0 (λ e. omega arith)

  -- one hypothesis
  hypothesis-step : (before : List Hypothesis) (h : Hypothesis) (n : ℕ) (front rest : List ℕ) → T (hypothesis_passes b.atoms before h)
      → load_from (suc n) (front ++ (hypothesis_bytes h ++ rest)) (length front) (after b.atoms before)
      ≡ load_from n (front ++ (hypothesis_bytes h ++ rest)) (length front + length (hypothesis_bytes h)) (after b.atoms (before ++ (h ∷ [])))
  unfolding hypothesis_bytes low_bytes taking is_finish misplaced is_empty
  hypothesis-step before h n front rest t =
      load-next n (front ++ (hypothesis_bytes h ++ rest)) (length front) (after b.atoms before) _
      (placed front 2 (h.declaration ∷ h.atom ∷ (low_bytes 3 h.weight ++ rest)) (after b.atoms before) (rw counted))
      (read-hypothesis front h rest (hypothesis_passes-weight b.atoms before h t)) (hypothesis_passes-zero b.atoms before h t) refl

  -- one rule
  rule-step : (before : List Rule) (r : Rule) (n : ℕ) (front rest : List ℕ) → T (rule_passes b.atoms b.hypotheses before r)
      → load_from (suc n) (front ++ (rule_bytes r ++ rest)) (length front) (after_rules b.atoms b.hypotheses before)
      ≡ load_from n (front ++ (rule_bytes r ++ rest)) (length front + length (rule_bytes r)) (after_rules b.atoms b.hypotheses (before ++ (r ∷ [])))
  unfolding rule_bytes taking is_finish misplaced
  rule-step before r n front rest t =
      let a : Board = after_rules b.atoms b.hypotheses before in
      let few : length r.body ≤ 8 = rule_passes-length b.atoms b.hypotheses before r t in
      let same : filled (places_of r) ≡ r.body = filled-places_of b.atoms k.atoms_room r (rule_passes-atoms b.atoms b.hypotheses before r t) in
      load-next n (front ++ (rule_bytes r ++ rest)) (length front) a _ (placed front 3 (r.head ∷ (places_of r ++ rest)) a (rw counted))
      (read-rule front r rest few) (rule_passes-zero b.atoms b.hypotheses before r t) refl
      ∙ rw (same, length-rule_bytes r few)

  -- from the place on where the hypotheses, the rules and the end stand
  load_rest : (n : ℕ) (front : List ℕ)
      → load_from (length b.hypotheses + (length b.rules + suc n))
      (front ++ (flatten (map hypothesis_bytes b.hypotheses) ++ (flatten (map rule_bytes b.rules) ++ (4 ∷ [])))) (length front) (after b.atoms [])
      ≡ accepted b
  unfolding misplaced
  load_rest n front =
      let passes = accepted-passes k in
      let s = passes.read in
      let hs : List ℕ = flatten (map hypothesis_bytes b.hypotheses) in
      let rs : List ℕ = flatten (map rule_bytes b.rules) in
      load-run hypothesis_bytes (hypothesis_passes b.atoms) (after b.atoms) hypothesis-step _ front (rs ++ (4 ∷ [])) [] b.hypotheses (so_far-hypotheses b s)
      ∙ (simp (append_assoc, length-append, add_assoc) at
      (load-run rule_bytes (rule_passes b.atoms b.hypotheses) (after_rules b.atoms b.hypotheses) rule-step (suc n) (front ++ hs) (4 ∷ []) [] b.rules (so_far-rules b s)))
      ∙ (simp (append_assoc, length-append) at
      (load_end n (front ++ hs ++ rs ++ (4 ∷ [])) (length (front ++ hs ++ rs)) b _ (placed (front ++ hs ++ rs) 4 [] b (rw counted)) (read_end (front ++ hs ++ rs) [])
      passes.finished (rw (length-append (front ++ hs ++ rs) (4 ∷ [])) (omega arith))))

  -- written out as a file, it is loaded back
  pub load_written : load (file_of b) ≡ accepted b
  unfolding load file_of no_board misplaced taking is_finish hypothesis_bytes rule_bytes
  load_written =
      let hs : List ℕ = flatten (map hypothesis_bytes b.hypotheses) in
      let rs : List ℕ = flatten (map rule_bytes b.rules) in
      let records : ℕ = length b.hypotheses + length b.rules in
      let enough : length (file_of b) ≡ length b.hypotheses + (length b.rules + suc (length (file_of b) - suc records)) =
      omega (
        arith,
        length-append (hs ++ rs) (4 ∷ []),
        length-append hs rs,
        length-le_flatten hypothesis_bytes (λ h. omega arith) b.hypotheses,
        length-le_flatten rule_bytes (λ r. omega arith) b.rules,
      ) in
      load-next (length (file_of b)) (file_of b) 0 no_board _ (placed [] 1 (b.atoms ∷ (hs ++ rs ++ (4 ∷ []))) no_board refl)
      (read_count [] b.atoms (hs ++ rs ++ (4 ∷ []))) (so_far-atoms b (accepted-passes k).read) refl
      ∙ rw (enough, append_assoc hs rs (4 ∷ [])) (load_rest _ (1 ∷ b.atoms ∷ []))
