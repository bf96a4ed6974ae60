-- `is_well_formed` meets its contract: its tests, in their order, are the definition's; the last two rely on those before them. Assumes nothing.
use borrow.Author.Rules.{rules}
use borrow.Author.Tests.{tests}
use native.Mathlib.Omega.{arith}
use mathlib.Core.Path.{◌≡◌, refl, sym, ◌∙◌}
use mathlib.Core.Bool.{Bool}
use Prim.Native.Nat.{ℕ, ◌-◌, ◌≤◌}
use Rattle.std.proofs.lemmas.Iterator.{YieldsList-from_range}
use Rattle.std.proofs.lemmas.Iterator.Search.{all_from_yields_List}
use Rattle.sets.proofs.Laws.Tests.{T_of_true, false_of_T, and_then, and_else, and_left, and_right}
use Rattle.board.specs.Board.{Board}
use Rattle.search.specs.Layout.{entry_room, line_room, entry_in, line_in}
use Rattle.search.specs.Order.{finished}
use Rattle.search.specs.Store.{entry_fits}
use Rattle.prepared.specs.Prepared.{Known}
use Rattle.wellformed.proofs.Laws.Indices.{all_range_below}
use Rattle.wellformed.proofs.Laws.Lent as lent
use Rattle.wellformed.proofs.Laws.Ordered.{goes_up, up_in_order, goes_down, down_in_order}
use Rattle.wellformed.proofs.is_well_formed.Goals as goal
use Rattle.wellformed.proofs.is_well_formed.Goals.{Else-line_room-m, Joined-all-4, then-limits-n-via-then-limits-n, then-limits-n-via-else-limits-n+then-limits-m, then-limits-n-via-else-limits-n+else-limits-m+then-entry_room-n, then-limits-n-via-else-limits-n+else-limits-m+else-entry_room-n+then-line_room-m, then-entries_end, else-entries_end, then-lines_end, else-lines_end, then-all, else-all, then-all-2, else-all-2, then-all-3, else-all-3, then-all-4, else-all-4}

pub returns-then-limits-n : goal.returns-then-limits-n
unfolding line_room
returns-then-limits-n c = λ b known. sym (false_of_T _ (λ t.
    let room = lent.formed-room b _ _ _ _ t in
    elim c.then-limits-n.branch [
      | then-limits-n-via-then-limits-n w ↦ omega arith
      | then-limits-n-via-else-limits-n+then-limits-m w ↦ omega arith
      | then-limits-n-via-else-limits-n+else-limits-m+then-entry_room-n w ↦ omega arith
      | then-limits-n-via-else-limits-n+else-limits-m+else-entry_room-n+then-line_room-m w ↦ omega arith
    ]))

-- the counts are within the limits and the room
room : (c : Else-line_room-m) → let a = c.args in
    (a.counts.entries ≤ a.limits.entries) × (a.counts.lines ≤ a.limits.lines)
    × (a.counts.entries ≤ entry_room a.entry.now) × (a.counts.lines ≤ line_room a.line.now)
unfolding line_room
room c =
    (c.if-limits-n.false, c.if-limits-m.false, omega (arith, c.entry_room.ensures), omega (arith, c.line_room.ensures))

-- ---- the tests, from the first on

-- the first k of them, of the words and counts that are lent
abbrev Passes : ℕ → Joined-all-4 → Bool → Type 0
Passes k c found =
    let a = c.args in
    (b : Board) → Known b a.known.now → found ≡ lent.passed b a.entry.now a.line.now a.counts k

two : (c : Joined-all-4) → Passes 2 c c.if-entries_end.value
two c = λ b known.
    let first = sym c.entries_end.ensures in
    elim c.if-entries_end.branch [
      | then-entries_end w ↦ and_then (first ∙ w.if-entries_end.true) (w.value-is ∙ w.lines_end.ensures)
      | else-entries_end w ↦ and_else _ (first ∙ w.if-entries_end.false) (w.value-is ∙ sym first)
    ]

three : (c : Joined-all-4) → Passes 3 c c.if-lines_end.value
three c = λ b known.
    let n = c.args.counts.entries in
    let fits = λ (i : ℕ). entry_fits b (entry_in c.args.entry.now i) in
    let first = sym (two c b known) in
    elim c.if-lines_end.branch [
      | then-lines_end w ↦
          let found = all_from_yields_List fits _ _ w.all.result w.all.ensures.ran (YieldsList-from_range 0 n n refl (omega arith))
          (λ x t q k. search (rules, tests, known)) in
          and_then (first ∙ w.if-lines_end.true) (w.value-is ∙ found ∙ all_range_below fits n)
      | else-lines_end w ↦ and_else _ (first ∙ w.if-lines_end.false) (w.value-is ∙ sym first)
    ]

four : (c : Joined-all-4) → Passes 4 c c.if-all.value
four c = λ b known.
    let n = c.args.counts.lines in
    let fits = λ (i : ℕ). entry_fits b (finished (line_in c.args.line.now i)) in
    let first = sym (three c b known) in
    elim c.if-all.branch [
      | then-all w ↦
          let all = w.all-then-all in
          let found = all_from_yields_List fits _ _ all.result all.ensures.ran (YieldsList-from_range 0 n n refl (omega arith))
          (λ x t q k. search (rules, tests, known)) in
          and_then (first ∙ w.if-all.true) (w.value-is ∙ found ∙ all_range_below fits n)
      | else-all w ↦ and_else _ (first ∙ w.if-all.false) (w.value-is ∙ sym first)
    ]

five : (c : Joined-all-4) → Passes 5 c c.if-all-2.value
five c = λ b known.
    let n = c.args.counts.entries in
    let entry = entry_in c.args.entry.now in
    let first = sym (four c b known) in
    elim c.if-all-2.branch [
      | then-all-2 w ↦
          let all = w.all-then-all-2 in
          let found = all_from_yields_List (goes_down entry) _ _ all.result all.ensures.ran (YieldsList-from_range 1 n (n - 1) refl refl)
          (λ x t q k. search (rules, tests)) in
          and_then (first ∙ w.if-all-2.true) (w.value-is ∙ found ∙ down_in_order entry n)
      | else-all-2 w ↦ and_else _ (first ∙ w.if-all-2.false) (w.value-is ∙ sym first)
    ]

six : (c : Joined-all-4) → Passes 6 c c.if-all-3.value
six c = λ b known.
    let n = c.args.counts.lines in
    let line = line_in c.args.line.now in
    let first = sym (five c b known) in
    elim c.if-all-3.branch [
      | then-all-3 w ↦
          let all = w.all-then-all-3 in
          let found = all_from_yields_List (goes_up line) _ _ all.result all.ensures.ran (YieldsList-from_range 1 n (n - 1) refl refl)
          (λ x t q k. search (rules, tests)) in
          and_then (first ∙ w.if-all-3.true) (w.value-is ∙ found ∙ up_in_order line n)
      | else-all-3 w ↦ and_else _ (first ∙ w.if-all-3.false) (w.value-is ∙ sym first)
    ]

seven : (c : Joined-all-4) → Passes 7 c c.if-all-4.value
seven c = λ b known.
    let first = sym (six c b known) in
    elim c.if-all-4.branch [
      | then-all-4 w ↦
          let six = first ∙ w.if-all-4.true in
          and_then six (w.value-is ∙ w.lines_apart.ensures b known (lent.six_choices b _ _ _ (T_of_true six)))
      | else-all-4 w ↦ and_else _ (first ∙ w.if-all-4.false) (w.value-is ∙ sym first)
    ]

pub returns-then-lines_apart : goal.returns-then-lines_apart
returns-then-lines_apart c = λ b known.
    let passed = sym (seven (goal.at.returns-then-lines_apart c).Joined-all-4 b known) ∙ c.if-lines_apart.true in
    let (few, short, n, m) = room (goal.at.returns-then-lines_apart c).Else-line_room-m in
    let six = and_left (lent.passed b _ _ _ 6) _ (T_of_true passed) in
    let entries = and_right (lent.passed b _ _ _ 4) _ (and_left (lent.passed b _ _ _ 5) _ six) in
    let lines = and_right (lent.passed b _ _ _ 5) _ six in
    and_then passed (c.lines_first.ensures entries lines) ∙ lent.eight_formed b _ _ _ _ few short n m

pub returns-else-lines_apart : goal.returns-else-lines_apart
returns-else-lines_apart c = λ b known.
    let (few, short, n, m) = room (goal.at.returns-else-lines_apart c).Else-line_room-m in
    let first = seven (goal.at.returns-else-lines_apart c).Joined-all-4 b known in
    and_else _ (sym first ∙ c.if-lines_apart.false) first ∙ lent.eight_formed b _ _ _ _ few short n m
