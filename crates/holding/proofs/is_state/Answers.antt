-- `is_state` meets its contract: there is one atom per declaration, and the chain asks each atom for its own. Assumes nothing.
use Rattle.std.proofs.Common.{◌≡◌, refl, sym, ◌∙◌, ℕ, ◌<◌, min, Bool, true, false, List, length, get_or, rules, arith}
use borrow.Author.Tests.{ne_eqb}
use Rattle.board.specs.Sizes.{most_atoms}
use Rattle.board.specs.Board.{Board, declarations_in, declaration, declarations, is_atom_of, is_state_of}
use Rattle.board.specs.Table.{board_of}
use Rattle.board.proofs.Laws.Board.States.{is_state, no_state_length, no_state_at}
use Rattle.holding.proofs.Laws.Remembered.{table-sizes}
use Rattle.holding.proofs.is_state.Goals as goal
use Rattle.holding.proofs.is_state.Goals.{After-declarations}

-- what tells whether each atom is of its declaration, where there are as many as declarations, is `is_state_of`
each_is : (b : Board) (s : List ℕ) (r : Bool) → length s ≡ declarations_in b.hypotheses
    → (r ≡ true → (k : ℕ) → k < length s → true ≡ is_atom_of (declaration b.hypotheses k) (get_or s k 0))
    → (r ≡ false → (k : ℕ) × (k < length s) × (false ≡ is_atom_of (declaration b.hypotheses k) (get_or s k 0)))
    → r ≡ is_state_of (declarations b) s
each_is b s true e each other = is_state b s e (each refl)
each_is b s false e each other = let (k, l, f) = other refl in no_state_at b s k l f

-- the count of the declarations, said of the board
counted : (c : After-declarations) → c.declarations.result ≡ declarations_in (board_of c.args.accepted.table.now).hypotheses
unfolding board_of
counted c =
    let t = c.args.accepted.table.now in
    let few : min t.hypotheses most_atoms ≡ t.hypotheses = omega (arith, table-sizes t c.args.accepted.loads) in
    rw few at (c.declarations.ensures.by_index t.atom t.weight)

pub returns-then-state-declarations : goal.returns-then-state-declarations
returns-then-state-declarations c =
    let whole = c.if-state-declarations.true ∙ counted (goal.at.returns-then-state-declarations c).After-declarations in
    each_is (board_of c.args.accepted.table.now) c.args.state.now c.all.result whole (λ e k l. search rules) (λ e. search rules)

pub returns-else-state-declarations : goal.returns-else-state-declarations
returns-else-state-declarations c =
    let count = counted (goal.at.returns-else-state-declarations c).After-declarations in
    ne_eqb _ _ c.if-state-declarations.false
    ∙ no_state_length (board_of c.args.accepted.table.now) c.args.state.now (λ e. c.if-state-declarations.false (e ∙ sym count))
