-- Sets that meet: some atom is in both. What they share is one of them, and sets that do not meet share nothing. Assumes nothing.
use Prim.Native.Nat.{ℕ}
use mathlib.Core.Path.{◌≡◌, refl, sym, ap, ◌∙◌, subst}
use mathlib.Core.Bool.{Bool, true, false, not, ◌&&◌, false≢true}
use lib.Bits.{bit_and}
use lib.Dec.{T, eqb}
use borrow.Author.Tests.{eq-eqb, ne_eqb}
use Rattle.sets.specs.Sets.{most_atoms, member, all_below, members, meets}
use Rattle.sets.proofs.Laws.Lists.{any_of, any_find, none_at}
use Rattle.sets.proofs.Laws.Sets.Digits.{member-and, member_empty, set_ext}
use Rattle.sets.proofs.Laws.Sets.Members.{members_at, members-of}
use Rattle.sets.proofs.Laws.Tests.{T_of_true, true_of_T, false_of_T, and_both, and_left, and_right}

-- an atom that is in both of two sets that meet
pub meets_find : (s t : ℕ) → T (meets s t) → (a : ℕ) × T (member a s) × T (member a t)
unfolding meets
meets_find s t h = let (a, m, k) = any_find (λ a. member a t) (members s) h in (a, members_at s m, k)

-- sets with an atom in both meet
pub meets-of : (s t a : ℕ) → T (all_below most_atoms s) → T (member a s) → T (member a t) → T (meets s t)
unfolding meets
meets-of s t a b h k = any_of (λ a. member a t) (members-of s b h) k

-- no atom of s is in t, where the two do not meet
pub not-meets : (s t a : ℕ) → meets s t ≡ false → T (all_below most_atoms s) → T (member a s) → member a t ≡ false
unfolding meets
not-meets s t a e b h = none_at (λ a. member a t) e (members-of s b h)

-- two sets meet exactly if the number of the digits that they share is not 0
pub meets-and : (s t : ℕ) → T (all_below most_atoms s) → meets s t ≡ not (eqb (bit_and s t) 0)
meets-and s t b = go (meets s t) refl
  where
    shared : (a : ℕ) → T (member a s) → T (member a t) → bit_and s t ≡ 0 → ⊥
    shared a h k none =
        false≢true
        (sym (member_empty a)
        ∙ ap (member a) (sym none)
        ∙ member-and a s t
        ∙ true_of_T (member a s && member a t) (and_both (member a s) (member a t) h k))

    alone : meets s t ≡ false → (a : ℕ) → T (member a (bit_and s t)) → ⊥
    alone e a h =
        let both : T (member a s && member a t) = subst T (member-and a s t) h in
        subst T (not-meets s t a e b (and_left (member a s) (member a t) both)) (and_right (member a s) (member a t) both)

    go : (u : Bool) → meets s t ≡ u → u ≡ not (eqb (bit_and s t) 0)
    go true e = let (a, h, k) = meets_find s t (T_of_true e) in rw (ne_eqb (bit_and s t) 0 (shared a h k))
    go false e =
        rw (eq-eqb (bit_and s t) 0 (set_ext (λ a. false_of_T (member a (bit_and s t)) (alone e a) ∙ sym (member_empty a))))
