-- Whether an atom is of a declaration, by the index of a hypothesis in the arrays. Assumes nothing.
use Rattle.std.proofs.Common.{◌≡◌, sym, ◌∙◌, ℕ, Bool, ◌&&◌, List, eqb, get_or}
use Prim.Native.Nat.{◌<◌}
use mathlib.Core.Path.{refl, ap, ap₂}
use mathlib.Core.Bool.{true, false}
use mathlib.Core.List.{[], ◌∷◌, map}
use lib.Dec.{eqb→eq, eqb_refl}
use Rattle.std.specs.List.{list_any, range_with_len}
use Rattle.sets.specs.Lists.{any, below}
use Rattle.sets.proofs.Laws.Lists.{any-keep, any-map, list_any-any}
use Rattle.sets.proofs.Laws.Lists.Indices.{any_below, none_below, range_with_len-numbers_from}
use Rattle.sets.proofs.Laws.Tests.{and_both, and_left, and_right}
use Rattle.board.specs.Board.{Hypothesis, Rule, declarations_in, declaration, declarations, is_atom_of, is_state_of}
use Rattle.board.specs.Table.{hypotheses_in, board_in}
use Rattle.board.proofs.Laws.Lent.{declarations_in-lent}

-- hypothesis i is of declaration d and has atom a
abbrev pub is_at : List ℕ → List ℕ → ℕ → ℕ → ℕ → Bool
is_at declared atom d a i = eqb (get_or declared i 0) d && eqb (get_or atom i 0) a

module _ (declared atom weights : List ℕ) (n d a : ℕ) where
  -- an atom is of the declaration if one of the first n hypotheses has both
  by_index : is_atom_of (declaration (hypotheses_in declared atom weights n) d) a ≡ any (is_at declared atom d a) (below n)
  unfolding is_atom_of declaration hypotheses_in
  by_index = any-keep (λ (h : Hypothesis). eqb h.atom a) (λ (h : Hypothesis). eqb h.declaration d) _ ∙ any-map _ _ (below n)

  -- .. said of the range of their indices
  pub by_range : list_any (is_at declared atom d a) (range_with_len 0 n) ≡ is_atom_of (declaration (hypotheses_in declared atom weights n) d) a
  unfolding below
  by_range = list_any-any _ (range_with_len 0 n) ∙ rw range_with_len-numbers_from (sym by_index)

  -- a hypothesis of this declaration with this atom
  pub choice_here : (k : ℕ) → k < n → get_or declared k 0 ≡ d → get_or atom k 0 ≡ a → true ≡ is_atom_of (declaration (hypotheses_in declared atom weights n) d) a
  choice_here k l e f = rw (by_index, any_below (is_at declared atom d a) n k l (and_both (eqb (get_or declared k 0) d) _ (rw e (eqb_refl d)) (rw f (eqb_refl a))))

  -- no hypothesis of this declaration with this atom
  pub choice_nowhere : ((k : ℕ) → k < n → get_or declared k 0 ≡ d → get_or atom k 0 ≡ a → ⊥) → false ≡ is_atom_of (declaration (hypotheses_in declared atom weights n) d) a
  choice_nowhere h = rw (
    by_index,
    none_below (is_at declared atom d a) n (λ k l t.
        h k l (eqb→eq (get_or declared k 0) d (and_left (eqb (get_or declared k 0) d) _ t)) (eqb→eq (get_or atom k 0) a (and_right (eqb (get_or declared k 0) d) _ t))),
  )

-- ---- the weights do not matter

module _ (declared atom weights other : List ℕ) (n : ℕ) where
  -- whether an atom is of a declaration
  is_atom_of-lent : (d a : ℕ) → is_atom_of (declaration (hypotheses_in declared atom weights n) d) a ≡ is_atom_of (declaration (hypotheses_in declared atom other n) d) a
  is_atom_of-lent d a = by_index declared atom weights n d a ∙ sym (by_index declared atom other n d a)

  -- whether a list of atoms is a state of some of the declarations ..
  states : (ds s : List ℕ) → is_state_of (map (declaration (hypotheses_in declared atom weights n)) ds) s ≡ is_state_of (map (declaration (hypotheses_in declared atom other n)) ds) s
  unfolding is_state_of
  states [] [] = refl
  states [] (a ∷ s) = refl
  states (d ∷ ds) [] = refl
  states (d ∷ ds) (a ∷ s) = ap₂ ◌&&◌ (is_atom_of-lent d a) (states ds s)

  -- .. and of all
  pub is_state_of-lent : (k j : ℕ) (rs qs : List Rule) (s : List ℕ)
      → is_state_of (declarations (board_in k declared atom weights n rs)) s ≡ is_state_of (declarations (board_in j declared atom other n qs)) s
  unfolding declarations
  is_state_of-lent k j rs qs s =
      states (below (declarations_in (hypotheses_in declared atom weights n))) s
      ∙ ap (λ (k : ℕ). is_state_of (map (declaration (hypotheses_in declared atom other n)) (below k)) s) (declarations_in-lent declared atom atom weights other n)
