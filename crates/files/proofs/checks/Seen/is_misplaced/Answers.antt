-- `is_misplaced` meets its contract: each answer is a case of `misplaced`. Assumes nothing.
use native.Mathlib.Omega.{arith}
use mathlib.Core.Path.{◌≡◌, refl, sym, ◌∙◌}
use mathlib.Core.Bool.{not}
use mathlib.Core.List.{List, [], ◌∷◌}
use lib.ListN.{length}
use lib.Dec.{ltb}
use borrow.Author.Tests.{lt-ltb, ne_eqb}
use Rattle.std.proofs.lemmas.Grind.{common_steps}
use Rattle.sets.specs.Lists.{is_empty}
use Rattle.board.specs.Board.{Rule}
use Rattle.board.specs.Load.{misplaced}
use Rattle.files.proofs.checks.Seen.is_misplaced.Goals as goal

pub returns-in-Count : goal.returns-in-Count
unfolding misplaced
returns-in-Count c b k = grind (arith, common_steps)

pub returns-then-self-eq0 : goal.returns-then-self-eq0
unfolding misplaced
returns-then-self-eq0 c b k = grind (arith, common_steps)

-- some rule
some_rule : (rs : List Rule) → not (is_empty rs) ≡ ltb 0 (length rs)
unfolding is_empty
some_rule [] = refl
some_rule (r ∷ rs) = sym (lt-ltb 0 (length (r ∷ rs)) (omega arith))

pub returns-else-self-eq0 : goal.returns-else-self-eq0
unfolding misplaced
returns-else-self-eq0 c b k =
    rw (c.in-Hypothesis.is, k.rules, ne_eqb b.atoms 0 (λ e. c.if-self-eq0.false (k.atoms ∙ e))) (sym (some_rule b.rules))

pub returns-in-Rule : goal.returns-in-Rule
unfolding misplaced
returns-in-Rule c b k = grind (arith, common_steps)
