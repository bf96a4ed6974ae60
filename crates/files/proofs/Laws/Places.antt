-- Laws of the filled places of a rule's record as the code walks over them: the highest, and whether they come first and ascend. Assumes nothing.
use mathlib.Core.Path.{◌≡◌, refl, sym, ap, ◌∙◌}
use mathlib.Core.Logic.{◌⊎◌, inl, inr}
use mathlib.Core.Bool.{Bool, true, ◌&&◌, ◌||◌}
use mathlib.Core.List.{List, [], ◌∷◌}
use Prim.Native.Nat.{ℕ, zero, suc, ◌+◌, ◌≤◌, ◌<◌, max}
use native.Mathlib.Omega.{arith}
use native.Mathlib.Decide.{dec_le, ℕ_discrete}
use lib.Dec.{T, leb, ltb, eqb, eqb→eq, ltb→lt, lt→ltb}
use lib.ListN.{length, get_or}
use borrow.Author.Tests.{le-leb, lt-leb, le-ltb, lt-ltb, eq-eqb, ne_eqb}
use Rattle.sets.specs.Lists.{any, keep, is_empty, ascending}
use Rattle.sets.proofs.Laws.Lists.Ascending.{ascending_from, ascending-next, ascending_from-zero, is_empty-ascending}
use Rattle.sets.proofs.Laws.Tests.{T_ext, T_of_true, true_of_T, and_swap, and_both, and_left, and_right, or_left, or_right, or_cases}
use Rattle.board.specs.Sizes.{empty_place}
use Rattle.board.specs.Load.{filled, filled_first}
use Rattle.files.specs.Private.Filled.{top_of}
use Rattle.board.proofs.Laws.Filled.{filled_empty, filled_full}

-- ---- the highest filled place

-- some number is at a limit or above exactly if the highest is
pub any-top : (limit : ℕ) (ps : List ℕ) → any (leb limit) ps ≡ ltb limit (top_of ps)
unfolding any top_of
any-top limit [] = sym (le-ltb limit 0 (omega arith))
any-top limit (p ∷ ps) = by (dec_le limit p) (any-top limit ps)
  where
    by : Dec (limit ≤ p) → any (leb limit) ps ≡ ltb limit (top_of ps) → (leb limit p || any (leb limit) ps) ≡ ltb limit (max (suc p) (top_of ps))
    by (yes l) e = rw (le-leb limit p l) (sym (lt-ltb limit (max (suc p) (top_of ps)) (omega arith)))
    by (no l) e =
        rw (lt-leb limit p (omega arith), e)
        (T_ext (ltb limit (top_of ps)) (ltb limit (max (suc p) (top_of ps)))
        (λ t. lt→ltb limit (max (suc p) (top_of ps)) (omega (arith, ltb→lt limit (top_of ps) t)))
        (λ t. lt→ltb limit (top_of ps) (omega (arith, ltb→lt limit (max (suc p) (top_of ps)) t))))

module _ (past p : ℕ) (ps : List ℕ) where
  -- an empty place changes nothing
  pub top_empty : p ≡ empty_place → max past (top_of (filled (p ∷ ps))) ≡ max past (top_of (filled ps))
  top_empty e = ap (λ (l : List ℕ). max past (top_of l)) (filled_empty ps e)

  -- a filled one may be the highest
  pub top-filled : (p ≡ empty_place → ⊥) → max past (top_of (filled (p ∷ ps))) ≡ max (max past (suc p)) (top_of (filled ps))
  unfolding top_of
  top-filled f = rw (filled_full ps f) (omega arith)

-- ---- filled places come first, and ascend

-- each place is empty or above the one before it
unfoldable pub climbs : ℕ → List ℕ → Bool
climbs before [] = true
climbs before (p ∷ ps) = (eqb p empty_place || ltb before p) && climbs p ps

-- no place is above an empty one
abbrev pub Bytes : List ℕ → Type 0
Bytes ps = (i : ℕ) → get_or ps i 0 ≤ empty_place

-- so none is filled after an empty one
climbs_past : (ps : List ℕ) → Bytes ps → climbs empty_place ps ≡ is_empty (filled ps)
unfolding climbs is_empty filled keep
climbs_past [] h = refl
climbs_past (p ∷ ps) h = by (ℕ_discrete p empty_place) (climbs_past ps (λ i. h (suc i)))
  where
    by : Dec (p ≡ empty_place) → climbs empty_place ps ≡ is_empty (filled ps) → climbs empty_place (p ∷ ps) ≡ is_empty (filled (p ∷ ps))
    by (yes e) rest = rw e rest
    by (no f) rest = rw (ne_eqb p empty_place f, le-ltb empty_place p (h 0))

-- after any place
climbs_from : (before : ℕ) (ps : List ℕ) → Bytes ps → climbs before ps ≡ (filled_first ps && ascending_from (suc before) (filled ps))
unfolding climbs filled_first filled keep ascending_from
climbs_from before [] h = refl
climbs_from before (p ∷ ps) h = by (ℕ_discrete p empty_place) (climbs_from p ps (λ i. h (suc i)))
  where
    by : Dec (p ≡ empty_place) → climbs p ps ≡ (filled_first ps && ascending_from (suc p) (filled ps))
        → climbs before (p ∷ ps) ≡ (filled_first (p ∷ ps) && ascending_from (suc before) (filled (p ∷ ps)))
    by (yes e) rest = rw e (climbs_past ps (λ i. h (suc i)) ∙ is_empty-ascending (suc before) (filled ps))
    by (no f) rest =
        rw (ne_eqb p empty_place f, rest, ascending-next p (filled ps))
        (and_swap (ltb before p) (filled_first ps) (ascending_from (suc p) (filled ps)))

-- from the first place on
climbs_means : (p : ℕ) (ps : List ℕ) → Bytes (p ∷ ps) → climbs p ps ≡ (filled_first (p ∷ ps) && ascending (filled (p ∷ ps)))
unfolding filled_first filled keep
climbs_means p ps h = by (ℕ_discrete p empty_place)
  where
    by : Dec (p ≡ empty_place) → climbs p ps ≡ (filled_first (p ∷ ps) && ascending (filled (p ∷ ps)))
    by (yes e) = rw e (climbs_past ps (λ i. h (suc i)) ∙ is_empty-ascending 0 (filled ps) ∙ rw ascending_from-zero)
    by (no f) = rw (ne_eqb p empty_place f, ascending-next p (filled ps)) (climbs_from p ps (λ i. h (suc i)))

-- the same by indices
abbrev pub Climbs : List ℕ → Type 0
Climbs ps = (k : ℕ) → k + 1 < length ps → (get_or ps (k + 1) 0 ≡ empty_place) ⊎ (get_or ps k 0 < get_or ps (k + 1) 0)

-- one index further on
further : (k : ℕ) → suc k + 1 ≡ suc (k + 1)
further k = omega arith

climbs_everywhere : (p : ℕ) (ps : List ℕ) → Climbs (p ∷ ps) → T (climbs p ps)
unfolding climbs
climbs_everywhere p [] h = tt
climbs_everywhere p (q ∷ ps) h =
    and_both (eqb q empty_place || ltb p q) (climbs q ps) (first (h 0 (omega arith)))
    (climbs_everywhere q ps (λ k l. rw (further k) at (h (suc k) (omega arith))))
  where
    first : (q ≡ empty_place) ⊎ (p < q) → T (eqb q empty_place || ltb p q)
    first (inl e) = or_left (eqb q empty_place) (ltb p q) (T_of_true (eq-eqb q empty_place e))
    first (inr l) = or_right (eqb q empty_place) (ltb p q) (lt→ltb p q l)

climbs_at : (p : ℕ) (ps : List ℕ) → T (climbs p ps) → Climbs (p ∷ ps)
unfolding climbs
climbs_at p [] h k l = absurd (omega arith)
climbs_at p (q ∷ ps) h zero l = first (or_cases (eqb q empty_place) (ltb p q) (and_left (eqb q empty_place || ltb p q) (climbs q ps) h))
  where
    first : T (eqb q empty_place) ⊎ T (ltb p q) → (q ≡ empty_place) ⊎ (p < q)
    first (inl e) = inl (eqb→eq q empty_place e)
    first (inr t) = inr (ltb→lt p q t)
climbs_at p (q ∷ ps) h (suc k) l =
    rw (further k) (climbs_at q ps (and_right (eqb q empty_place || ltb p q) (climbs q ps) h) k (omega arith))

-- what is true exactly if each place but the first is empty or above the one before it, says that filled places come first and ascend
pub climbs_test : (ps : List ℕ) (t : Bool) → Bytes ps → (t ≡ true → Climbs ps) → (Climbs ps → t ≡ true) → t ≡ (filled_first ps && ascending (filled ps))
unfolding filled_first filled keep ascending
climbs_test [] t h f g = g (λ k l. absurd (omega arith))
climbs_test (p ∷ ps) t h f g =
    T_ext t (climbs p ps) (λ x. climbs_everywhere p ps (f (true_of_T t x))) (λ x. T_of_true (g (climbs_at p ps x))) ∙ climbs_means p ps h
