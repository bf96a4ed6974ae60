-- The proof of the cycle of calls {atom_holds, rule_holds}. Each call leaves what is rightly found. Assumes nothing.
use Rattle.std.proofs.Common.{◌≡◌, sym, ◌∙◌, ℕ, Bool, true, false, arith}
use Rattle.holding.specs.Private.Remembered.{lent_holds}
use Rattle.holding.specs.declared.Asking.{Asking}
use Rattle.holding.proofs.Laws.Remembered.{remembered_set, contains-in_state, rule_everywhere, rule-not-here}
use Rattle.holding.proofs.Laws.Remembered.{lent-chosen, lent-rule, lent_none, lent-room, lent-low}
use Rattle.holding.proofs.Asking.+atom_holds_rule_holds.Goals as goal
use Rattle.holding.proofs.Asking.+atom_holds_rule_holds.Goals.{atom_holds-Then-contains, atom_holds-Then-rule_holds, atom_holds-After-loop-rule}

-- ---- the atom test

-- whether an atom holds, by the table and the state that are asked
abbrev holding : Asking → ℕ → Bool
holding s = let t = s.table.now in lent_holds t.head t.body t.rules s.state.now

pub atom_holds-returns-in-Some-clause-value : goal.atom_holds-returns-in-Some-clause-value
atom_holds-returns-in-Some-clause-value t c = c.args.self.now.remembered.right c.args.a c.in-Some.found (rw c.from-at.ensures at c.in-Some.is)

-- a chosen atom holds
chosen : {t : ℕ} (c : atom_holds-Then-contains t) → true ≡ holding c.args.self.now c.args.a
chosen c =
    let s = c.args.self.now in
    let t = s.table.now in
    lent-chosen t.head t.body t.rules s.state.now s.sound c.args.a (sym c.if-contains.true ∙ c.contains.ensures.value ∙ contains-in_state s.state.now c.args.a)

pub atom_holds-invariant_of-self : goal.atom_holds-invariant_of-self
atom_holds-invariant_of-self t c =
    let s = c.args.self.now in
    record { sound = s.sound; remembered = remembered_set _ s.known s.remembered _ true (rw c.from-at.ensures (chosen c)) }

pub atom_holds-returns-then-contains-clause-value : goal.atom_holds-returns-then-contains-clause-value
atom_holds-returns-then-contains-clause-value t c = chosen (goal.at.atom_holds-returns-then-contains-clause-value t c).Then-contains

pub atom_holds-bounds-t-rule : goal.atom_holds-bounds-t-rule
atom_holds-bounds-t-rule t c = omega (arith, c.args.self.now.sound.few)

-- so does one with a rule that holds ..
by_rule : {t : ℕ} (c : atom_holds-Then-rule_holds t) → true ≡ holding c.args.self.now c.args.a
by_rule c =
    let s = c.args.self.now in
    let t = s.table.now in
    let i = c.loop-rule.invariant in
    lent-rule t.head t.body t.rules s.state.now s.sound c.args.a c.loop-rule.rule c.loop-rule-test.true c.if-t-rule.true
    (rw (i.table, i.state) at c.if-rule_holds.ensures.value)

pub atom_holds-invariant_of-self-then-rule_holds : goal.atom_holds-invariant_of-self-then-rule_holds
atom_holds-invariant_of-self-then-rule_holds t c =
    let s = c.rule_holds.new.self in
    let i = c.loop-rule.invariant in
    let e = c.rule_holds.ensures in
    let held = by_rule (goal.at.atom_holds-invariant_of-self-then-rule_holds t c).Then-rule_holds in
    record { sound = s.sound; remembered = remembered_set _ s.known s.remembered _ true (rw (e.table ∙ i.table, e.state ∙ i.state, c.from-at.ensures) held) }

pub atom_holds-returns-then-rule_holds-clause-value : goal.atom_holds-returns-then-rule_holds-clause-value
atom_holds-returns-then-rule_holds-clause-value t c = by_rule (goal.at.atom_holds-returns-then-rule_holds-clause-value t c).Then-rule_holds

-- .. and no other
by_none : {t : ℕ} (c : atom_holds-After-loop-rule t) → false ≡ holding c.args.self.now c.args.a
by_none c =
    let s = c.args.self.now in
    let t = s.table.now in
    lent_none t.head t.body t.rules s.state.now s.sound c.args.a
    (sym c.if-contains.false ∙ c.contains.ensures.value ∙ contains-in_state s.state.now c.args.a) (λ k l. c.loop-rule.invariant.none k (omega arith))

pub atom_holds-invariant_of-self-2 : goal.atom_holds-invariant_of-self-2
atom_holds-invariant_of-self-2 t c =
    let s = c.loop-rule.self in
    let i = c.loop-rule.invariant in
    let held = by_none (goal.at.atom_holds-invariant_of-self-2 t c).After-loop-rule in
    record { sound = s.sound; remembered = remembered_set _ s.known s.remembered _ false (rw (i.table, i.state, c.from-at.ensures) held) }

pub atom_holds-returns-clause-value : goal.atom_holds-returns-clause-value
atom_holds-returns-clause-value t c = by_none (goal.at.atom_holds-returns-clause-value t c).After-loop-rule

-- ---- the rule test

pub rule_holds-overflow_mul-first : goal.rule_holds-overflow_mul-first
rule_holds-overflow_mul-first t c = omega (arith, c.args.self.now.sound.few)

pub rule_holds-overflow_add-b : goal.rule_holds-overflow_add-b
rule_holds-overflow_add-b t c = omega (arith, c.args.self.now.sound.few)

pub rule_holds-bounds-t-first : goal.rule_holds-bounds-t-first
rule_holds-bounds-t-first t c = omega (arith, c.args.self.now.sound.few)

pub rule_holds-atom_holds-requires : goal.rule_holds-atom_holds-requires
rule_holds-atom_holds-requires t c =
    let s = c.args.self.now in
    let b = s.table.now in
    let low = lent-low b.head b.body b.rules s.sound c.args.rule c.requires c.loop-place.place (omega arith) c.if-b.true in
    (omega (arith, c.decreases, low), omega (arith, low, s.sound.heads c.args.rule c.requires))

pub rule_holds-returns-then-not-atom_holds-clause-value : goal.rule_holds-returns-then-not-atom_holds-clause-value
rule_holds-returns-then-not-atom_holds-clause-value t c =
    let s = c.args.self.now in
    let b = s.table.now in
    let i = c.loop-place.invariant in
    rule-not-here _ b.head b.body c.args.rule (lent-room b.head b.body b.rules s.sound c.args.rule c.requires)
    c.loop-place.place (omega arith) c.if-b.true (rw (i.table, i.state) at c.if-not-atom_holds.ensures.value)

pub rule_holds-returns-clause-value : goal.rule_holds-returns-clause-value
rule_holds-returns-clause-value t c =
    let s = c.args.self.now in
    rule_everywhere _ s.table.now.head s.table.now.body c.args.rule (λ k l. c.loop-place.invariant.all k (omega arith))
