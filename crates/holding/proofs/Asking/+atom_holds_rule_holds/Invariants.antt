-- The measures of the cycle of calls {atom_holds, rule_holds}, and what its loops keep. The measure of an atom is 2 * a + 1 and that of a rule twice its head:
-- a rule's body atoms are below its head. Assumes nothing.
use Rattle.std.proofs.Common.{◌≡◌, ℕ, ◌+◌, ◌*◌, ◌<◌, true, false, get_or}
use Rattle.board.specs.Holds.{rule_holds}
use Rattle.board.specs.Table.{rule_in}
use Rattle.holding.specs.Private.Remembered.{lent_holds}
use Rattle.holding.proofs.Asking.+atom_holds_rule_holds.Given as goal

abbrev pub decreases-atom_holds : goal.decreases-atom_holds
decreases-atom_holds l = 2 * l.a + 1

abbrev pub decreases-rule_holds : goal.decreases-rule_holds
decreases-rule_holds l = 2 * get_or l.self.now.table.now.head l.rule 0

-- the atom test: no rule passed that has this head holds
abbrev pub invariant-atom_holds-loop-rule : goal.invariant-atom_holds-loop-rule
invariant-atom_holds-loop-rule l = let t = l.fn.self.table.now in record {
  table : l.self.table ≡ l.fn.self.table;
  state : l.self.state ≡ l.fn.self.state;
  none : (k : ℕ) → k < l.rule → get_or t.head k 0 ≡ l.a
      → false ≡ rule_holds (lent_holds t.head t.body t.rules l.fn.self.state.now) (rule_in t.head t.body k);
}

-- the rule test: every filled place passed has an atom that holds
abbrev pub invariant-rule_holds-loop-place : goal.invariant-rule_holds-loop-place
invariant-rule_holds-loop-place l = let t = l.fn.self.table.now in record {
  table : l.self.table ≡ l.fn.self.table;
  state : l.self.state ≡ l.fn.self.state;
  all : (k : ℕ) → k < l.place → (get_or t.body (l.first + k) 0 ≡ 255 → ⊥)
      → true ≡ lent_holds t.head t.body t.rules l.fn.self.state.now (get_or t.body (l.first + k) 0);
}
