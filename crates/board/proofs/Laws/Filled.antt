-- Laws of the filled places of a rule's record: place by place, and that the body filled up with empty places gives the record's places back, and the
-- other way round. Assumes nothing.
use mathlib.Core.Path.{◌≡◌, refl, sym, ap, ◌∙◌}
use mathlib.Core.Bool.{not}
use mathlib.Core.List.{List, [], ◌∷◌, ◌++◌, cons≢nil}
use Prim.Native.Nat.{ℕ, zero, suc, ◌-◌, ◌≤◌, ◌<◌}
use native.Mathlib.Nat.{suc-sub-suc, sub-zero}
use native.Mathlib.Omega.{arith}
use native.Mathlib.Decide.{ℕ_discrete}
use lib.ListN.{length, replicate}
use lib.Dec.{T, ltb, eqb, ltb→lt, lt→ltb}
use borrow.Author.Tests.{ne_eqb}
use Rattle.sets.specs.Lists.{all, keep, is_empty, pad}
use Rattle.sets.proofs.Laws.Lists.{all_mono, empty_nil}
use Rattle.sets.proofs.Laws.Lists.Padding.{keep-pad, keep-replicate, length-pad}
use Rattle.sets.proofs.Laws.Tests.{true_of_T, and_left, and_right}
use Rattle.board.specs.Sizes.{most_body, empty_place}
use Rattle.board.specs.Board.{Rule}
use Rattle.board.specs.Load.{filled, filled_first}
use Rattle.board.specs.Table.{places_of}

-- ---- one place

-- an empty place is left out
pub filled_empty : {p : ℕ} (ps : List ℕ) → p ≡ empty_place → filled (p ∷ ps) ≡ filled ps
unfolding filled keep
filled_empty ps e = rw e

-- a filled place is kept
pub filled_full : {p : ℕ} (ps : List ℕ) → (p ≡ empty_place → ⊥) → filled (p ∷ ps) ≡ p ∷ filled ps
unfolding filled keep
filled_full {p} ps h = rw (ne_eqb p empty_place h)

-- ---- the body, and the places of its record

-- places none of which is filled are all empty
pub filled_none : (places : List ℕ) → filled places ≡ [] → replicate (length places) empty_place ≡ places
filled_none [] h = refl
filled_none (p ∷ rest) h = go (ℕ_discrete p empty_place) (filled_none rest)
  where
    go : Dec (p ≡ empty_place) → (filled rest ≡ [] → replicate (length rest) empty_place ≡ rest) → replicate (length (p ∷ rest)) empty_place ≡ p ∷ rest
    go (yes e) f = rw (f (sym (filled_empty rest e) ∙ h), e)
    go (no e) f = absurd (cons≢nil (sym (filled_full rest e) ∙ h))

-- where filled places come first, the filled ones padded are the places
pub pad-filled : (places : List ℕ) → T (filled_first places) → pad (length places) empty_place (filled places) ≡ places
unfolding pad filled_first filled keep
pad-filled [] h = refl
pad-filled (p ∷ rest) h = go (ℕ_discrete p empty_place) (pad-filled rest)
  where
    go : Dec (p ≡ empty_place) → (T (filled_first rest) → pad (length rest) empty_place (filled rest) ≡ rest) → pad (length (p ∷ rest)) empty_place (filled (p ∷ rest)) ≡ p ∷ rest
    go (yes e) f =
        let none : filled (p ∷ rest) ≡ [] = filled_empty rest e ∙ empty_nil (filled rest) (true_of_T _ (rw e at h)) in
        rw (none, sub-zero (suc (length rest))) (filled_none (p ∷ rest) none)
    go (no e) f =
        rw (filled_full rest e, suc-sub-suc (length rest) (length (filled rest))) (ap (◌∷◌ p) (f (rw (ne_eqb p empty_place e) at h)))

-- a body of atoms, padded, has the body for its filled places
pub filled-pad : (n : ℕ) (body : List ℕ) → T (all (λ a. ltb a empty_place) body) → filled (pad n empty_place body) ≡ body
unfolding filled
filled-pad n body h = keep-pad (λ p. not (eqb p empty_place)) n empty_place body refl (all_mono _ _ body (λ a m t. full a (ltb→lt a empty_place t)) h)
  where
    full : (a : ℕ) → a < empty_place → T (not (eqb a empty_place))
    full a l = rw (ne_eqb a empty_place (λ e. omega arith)) tt

-- no filled place stands after an empty one where atoms stand before a run of empty places
filled_first-run : (k : ℕ) (body : List ℕ) → T (all (λ a. ltb a empty_place) body) → T (filled_first (body ++ replicate k empty_place))
unfolding filled_first all is_empty filled
filled_first-run zero [] h = tt
filled_first-run (suc k) [] h = rw (keep-replicate (λ p. not (eqb p empty_place)) empty_place refl k) tt
filled_first-run k (a ∷ body) h =
    let l : a < empty_place = ltb→lt a empty_place (and_left (ltb a empty_place) _ h) in
    rw (ne_eqb a empty_place (λ e. omega arith)) (filled_first-run k body (and_right (ltb a empty_place) _ h))

-- the places of a body of at most 8 atoms are 8
pub length-places_of : (r : Rule) → length r.body ≤ 8 → length (places_of r) ≡ 8
unfolding places_of
length-places_of r h = length-pad most_body empty_place r.body h

module _ (atoms : ℕ) (few : atoms ≤ 128) (r : Rule) (t : T (all (λ a. ltb a atoms) r.body)) where
  -- no body atom is an empty place
  full : T (all (λ a. ltb a empty_place) r.body)
  full = all_mono _ _ r.body (λ a m h. lt→ltb a empty_place (omega (arith, ltb→lt a atoms h))) t

  -- so the filled places are the body
  pub filled-places_of : filled (places_of r) ≡ r.body
  unfolding places_of
  filled-places_of = filled-pad most_body r.body full

  -- .. and "Filled places come first"
  pub filled_first-places_of : T (filled_first (places_of r))
  unfolding places_of pad
  filled_first-places_of = filled_first-run (most_body - length r.body) r.body full

-- eight places, the filled ones first, are those of the rule whose body they hold
pub places_of-filled : (h : ℕ) (places : List ℕ) → length places ≡ most_body → T (filled_first places) → places_of (record { head = h; body = filled places }) ≡ places
unfolding places_of
places_of-filled h places eight first = ap (λ (n : ℕ). pad n empty_place (filled places)) (sym eight) ∙ pad-filled places first
