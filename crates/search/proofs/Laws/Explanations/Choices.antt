-- Laws of sets with at most one choice per declaration: what `is_choice` says, part by part, how many atoms such a set has, that a board state is
-- one, and that two sets inside one are compatible. Assumes nothing.
use Prim.Native.Nat.{ℕ, suc, ◌≤◌, ◌<◌}
use native.Mathlib.Omega.{arith}
use mathlib.Core.Path.{◌≡◌, refl, ap, ◌∙◌}
use mathlib.Core.Bool.{Bool, true, false, ◌&&◌}
use mathlib.Core.List.Memᴰ
use mathlib.Core.List.{List, [], ◌∷◌, map, Memᴰ}
use mathlib.Core.Logic.{⊎_elim}
use lib.Dec.{T, leb, leb→le, eqb→eq}
use lib.ListN.{length, length-map}
use Rattle.sets.specs.Lists.{all, below, same_numbers}
use Rattle.sets.specs.Sets.{most_atoms, member, with, without, set_of, subset, all_below, members, size}
use Rattle.sets.proofs.Laws.Lists.{all_at, all_of, all_cong, among_at, short_equal, same_numbers_refl, same_numbers→eq}
use Rattle.sets.proofs.Laws.Lists.Indices.{length-below, below_of}
use Rattle.sets.proofs.Laws.Sets.{member_empty, member-set_of, with_cases, without-same, without-left, without-not-member, subset_at, subset-of}
use Rattle.sets.proofs.Laws.Sets.Bounds.{all_below_at, all_below_empty, all_below_up, all_below-with, all_below-without, all_below-set_of}
use Rattle.sets.proofs.Laws.Sets.Members.{members_at, members-of, size_empty, size-without, size-subset}
use Rattle.sets.proofs.Laws.Tests.{T_of_true, T_ext, and_both, and_left, and_right}
use Rattle.board.specs.Sizes.{most_declarations}
use Rattle.board.specs.Board.{Board, Hypothesis, declaration, declarations, is_hypothesis, chosen_of, board_states}
use Rattle.board.specs.Holds.{atoms_of}
use Rattle.board.proofs.Promise.{Accepted, declarations_in-member, is_hypothesis_find, is_hypothesis-of, hypothesis-declaration, chosen_of_at, chosen_of-of, chosen_equal, AtMostOne, AtMostOne_empty, AtMostOne-with, AtMostOne-inside, AtMostOne_state, state_hypothesis}
use Rattle.search.specs.Explanations.{is_choice, agree, compatible}

module _ (b : Board) (D : ℕ) where
  -- its atoms are the board's
  pub choice_below : T (is_choice b D) → T (all_below b.atoms D)
  unfolding is_choice
  choice_below c = and_left (all_below b.atoms D) (all (is_hypothesis b) (members D))
      (and_left (all_below b.atoms D && all (is_hypothesis b) (members D)) (all (λ d. leb (length (chosen_of D d)) 1) (declarations b)) c)

  -- at most one per declaration
  pub choice_one : T (is_choice b D) → AtMostOne D (declarations b)
  unfolding is_choice
  choice_one c = and_right (all_below b.atoms D && all (is_hypothesis b) (members D)) (all (λ d. leb (length (chosen_of D d)) 1) (declarations b)) c

  module _ (k : Accepted b) where
    -- its atoms are below the most that any board has
    pub choice_room : T (is_choice b D) → T (all_below most_atoms D)
    choice_room c = all_below_up b.atoms most_atoms D k.atoms_room (choice_below c)

    -- its atoms are hypotheses
    pub choice_hypothesis : T (is_choice b D) → (a : ℕ) → T (member a D) → T (is_hypothesis b a)
    unfolding is_choice
    choice_hypothesis c a m = all_at (is_hypothesis b) (and_right (all_below b.atoms D) (all (is_hypothesis b) (members D))
        (and_left (all_below b.atoms D && all (is_hypothesis b) (members D)) (all (λ d. leb (length (chosen_of D d)) 1) (declarations b)) c))
        (members-of D (choice_room c) m)

  -- hypotheses of the board, at most one per declaration, are a choice
  pub choice_of : T (all_below b.atoms D) → ((a : ℕ) → T (member a D) → T (is_hypothesis b a)) → AtMostOne D (declarations b) → T (is_choice b D)
  unfolding is_choice
  choice_of below own one =
      and_both (all_below b.atoms D && all (is_hypothesis b) (members D)) (all (λ d. leb (length (chosen_of D d)) 1) (declarations b))
      (and_both (all_below b.atoms D) (all (is_hypothesis b) (members D)) below (all_of (is_hypothesis b) (members D) (λ a m. own a (members_at D m)))) one

-- nothing chosen is a choice
pub choice_empty : (b : Board) → T (is_choice b 0)
choice_empty b = choice_of b 0 (all_below_empty b.atoms) (λ a m. absurd (rw (member_empty a) at m)) (AtMostOne_empty (declarations b))

-- a hypothesis of a declaration that a choice does not touch may join it
pub choice_with : (b : Board) → Accepted b → (D : ℕ) → T (is_choice b D) → {h : Hypothesis} → Memᴰ h b.hypotheses
    → chosen_of D (declaration b.hypotheses h.declaration) ≡ [] → T (is_choice b (with h.atom D))
choice_with b k D c {h} m untouched = choice_of b (with h.atom D)
    (all_below-with b.atoms h.atom D (k.hypothesis h m).atom_below (choice_below b D c))
    (λ a t. ⊎_elim (choice_hypothesis b D k c a) (λ e. rw (eqb→eq h.atom a e) at (is_hypothesis-of b m)) (with_cases a h.atom D t))
    (AtMostOne-with b k D h m untouched (choice_one b D c))

-- ---- how many atoms

-- a set whose atoms are all listed has no more atoms than the list
size-listed : (xs : List ℕ) (s : ℕ) → T (all_below most_atoms s) → ((a : ℕ) → T (member a s) → Memᴰ a xs) → size s ≤ length xs
size-listed [] s b f = omega (arith, size_empty, size-subset s 0 (subset-of s 0 (λ a m. absurd (Memᴰ.not-nil (f a m)))))
size-listed (x ∷ xs) s b f =
    omega (arith, less (member x s) refl, size-listed xs (without x s) (all_below-without most_atoms x s b) (λ a m. rest a m (f a (without-left a x s m))))
  where
    less : (t : Bool) → member x s ≡ t → size s ≤ suc (size (without x s))
    less true e = omega (arith, size-without x s (T_of_true e) (all_below_at most_atoms s x b (T_of_true e)))
    less false e = rw (without-not-member x s e) (omega arith)

    rest : (a : ℕ) → T (member a (without x s)) → Memᴰ a (x ∷ xs) → Memᴰ a xs
    rest a m (Memᴰ.head e) = absurd (rw (e, without-same x s) at m)
    rest a m (Memᴰ.tail n) = n

-- the atom of the first of these hypotheses
first_atom : List Hypothesis → ℕ
first_atom [] = 0
first_atom (h ∷ hs) = h.atom

-- where there is at most one hypothesis, its atom
first_atom_only : (hs : List Hypothesis) → length hs ≤ 1 → {h : Hypothesis} → Memᴰ h hs → first_atom hs ≡ h.atom
unfolding first_atom
first_atom_only [] l m = absurd (Memᴰ.not-nil m)
first_atom_only (g ∷ hs) l m = ap (λ (h : Hypothesis). h.atom) (short_equal (g ∷ hs) l (Memᴰ.head refl) m)

-- a choice has no more atoms than there are declarations
pub choice_size : (b : Board) → Accepted b → (D : ℕ) → T (is_choice b D) → size D ≤ most_declarations
choice_size b k D c =
    rw (length-map (below most_declarations) chosen, length-below) at (size-listed (map chosen (below most_declarations)) D (choice_room b D k c) listed)
  where
    -- what D chose of declaration i
    chosen : ℕ → ℕ
    chosen i = first_atom (chosen_of D (declaration b.hypotheses i))

    listed : (a : ℕ) → T (member a D) → Memᴰ a (map chosen (below most_declarations))
    listed a t =
        let (h, m, e) = is_hypothesis_find b a (choice_hypothesis b D k c a t) in
        let (n, i) = hypothesis-declaration b m in
        let one = leb→le _ 1 (all_at (λ d. leb (length (chosen_of D d)) 1) (choice_one b D c) n) in
        let own : chosen h.declaration ≡ a = first_atom_only _ one (chosen_of-of D i (rw e t)) ∙ e in
        let room : h.declaration < most_declarations = omega (arith, declarations_in-member m, k.declarations_room) in
        rw own at (Memᴰ.map chosen (below_of room))

-- ---- board states

-- a board state is a set of hypotheses, at most one per declaration
pub state_choice : (b : Board) → Accepted b → {s : List Hypothesis} → Memᴰ s (board_states b) → T (is_choice b (set_of (atoms_of s)))
state_choice b k {s} m = choice_of b (set_of (atoms_of s))
    (all_below-set_of b.atoms (atoms_of s) (λ a n. let (h, i, e) = is_hypothesis_find b a (state_hypothesis b m a n) in rw e at (k.hypothesis h i).atom_below))
    (λ a t. state_hypothesis b m a (among_at (atoms_of s) a (rw (member-set_of a (atoms_of s)) at t)))
    (AtMostOne_state b m k)

-- ---- compatible sets

-- one choice each at most, and the same one, is no different choice
pub agree_short : (xs ys : List Hypothesis) → length xs ≤ 1 → length ys ≤ 1
    → ((g h : Hypothesis) → Memᴰ g xs → Memᴰ h ys → g ≡ h) → T (agree xs ys)
unfolding agree
agree_short [] ys l k f = tt
agree_short (x ∷ xs) [] l k f = tt
agree_short (x ∷ []) (y ∷ []) l k f = rw (f x y (Memᴰ.head refl) (Memᴰ.head refl)) (same_numbers_refl (atoms_of (y ∷ [])))
agree_short (x ∷ []) (y ∷ z ∷ ys) l k f = absurd (omega arith)
agree_short (x ∷ w ∷ xs) (y ∷ ys) l k f = absurd (omega arith)

-- which of the two is named first does not matter
agree_comm : (xs ys : List Hypothesis) → agree xs ys ≡ agree ys xs
unfolding agree
agree_comm [] [] = refl
agree_comm [] (y ∷ ys) = refl
agree_comm (x ∷ xs) [] = refl
agree_comm (x ∷ xs) (y ∷ ys) = T_ext (same_numbers gs hs) (same_numbers hs gs) (turn gs hs) (turn hs gs)
  where
    gs : List ℕ
    gs = atoms_of (x ∷ xs)

    hs : List ℕ
    hs = atoms_of (y ∷ ys)

    turn : (ms ns : List ℕ) → T (same_numbers ms ns) → T (same_numbers ns ms)
    turn ms ns t = rw (same_numbers→eq ms ns t) (same_numbers_refl ns)

pub compatible_comm : (b : Board) (D E : ℕ) → compatible b D E ≡ compatible b E D
unfolding compatible
compatible_comm b D E = all_cong (declarations b) (λ d m. agree_comm (chosen_of D d) (chosen_of E d))

-- two sets inside one with at most one choice per declaration are compatible
pub compatible-inside : (b : Board) (D E S : ℕ) → T (subset D S) → T (subset E S) → T (is_choice b S) → T (compatible b D E)
unfolding compatible
compatible-inside b D E S in_d inE choice =
    all_of (λ d. agree (chosen_of D d) (chosen_of E d)) (declarations b) (λ d m.
    agree_short (chosen_of D d) (chosen_of E d) (short D in_d d m) (short E inE d m) (λ g h i j.
    let (gd, gD) = chosen_of_at D d i in
    let (hd, hE) = chosen_of_at E d j in
    chosen_equal b S (choice_one b S choice) m gd hd (subset_at D S g.atom in_d gD) (subset_at E S h.atom inE hE)))
  where
    short : (F : ℕ) → T (subset F S) → (d : List Hypothesis) → Memᴰ d (declarations b) → length (chosen_of F d) ≤ 1
    short F inF d m =
        leb→le (length (chosen_of F d)) 1
        (all_at (λ d. leb (length (chosen_of F d)) 1) (AtMostOne-inside b F S (λ h n. subset_at F S h.atom inF) (choice_one b S choice)) m)
