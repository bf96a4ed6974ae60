-- Laws of `each_passes`, by which each of a list passes after those before it. Assumes nothing.
use mathlib.Core.Path.{◌≡◌, refl, sym, ◌∙◌}
use mathlib.Core.Bool.{Bool, ◌&&◌, and-true, and_assoc}
use mathlib.Core.List.{List, [], ◌∷◌, ◌++◌, append-nil, Memᴰ}
use lib.Seq.{append_snoc}
use lib.Dec.{T}
use Rattle.sets.proofs.Laws.Tests.{and_both, and_left, and_right}
use Rattle.board.specs.Private.Passes.{each_passes}

module _ {ℓ} {A : Type ℓ} (p : List A → A → Bool) where
  -- with one more, all pass exactly if it passes after all before it
  pub each_snoc : (before xs : List A) (x : A) → each_passes p before (xs ++ (x ∷ [])) ≡ (each_passes p before xs && p (before ++ xs) x)
  unfolding each_passes
  each_snoc before [] x = rw (append-nil before) (and-true _)
  each_snoc before (y ∷ xs) x =
      rw (each_snoc (before ++ (y ∷ [])) xs x, append_snoc before y xs) (sym (and_assoc (p before y) (each_passes p (before ++ (y ∷ [])) xs) (p (before ++ (y ∷ xs)) x)))

  -- where all pass, each does after those before it ..
  pub each_at : (before xs : List A) (x : A) (ys : List A) → T (each_passes p before (xs ++ (x ∷ ys))) → T (p (before ++ xs) x)
  unfolding each_passes
  each_at before [] x ys t = rw (append-nil before) (and_left (p before x) _ t)
  each_at before (y ∷ xs) x ys t = rw (append_snoc before y xs) at (each_at (before ++ (y ∷ [])) xs x ys (and_right (p before y) _ t))

  -- .. and the other way round
  pub each_of : (before xs : List A) → ((ys : List A) (x : A) (zs : List A) → before ++ xs ≡ ys ++ (x ∷ zs) → T (p ys x)) → T (each_passes p before xs)
  unfolding each_passes
  each_of before [] f = tt
  each_of before (x ∷ xs) f = and_both (p before x) _ (f before x xs refl) (each_of (before ++ (x ∷ [])) xs (λ ys y zs e. f ys y zs (sym (append_snoc before x xs) ∙ e)))

  -- each member passes after some
  pub each_member : (before xs : List A) → T (each_passes p before xs) → {x : A} → Memᴰ x xs → (ys : List A) × T (p ys x)
  unfolding each_passes
  each_member before [] t m = elim m [ ]
  each_member before (y ∷ xs) t (Memᴰ.head e) = (before, rw e (and_left (p before y) _ t))
  each_member before (y ∷ xs) t (Memᴰ.tail m) = each_member (before ++ (y ∷ [])) xs (and_right (p before y) _ t) m

  -- what each keeps by passing, all have
  pub each_keeps : (P : List A → Type 0) → ((before : List A) (x : A) → P before → T (p before x) → P (before ++ (x ∷ [])))
      → (before xs : List A) → P before → T (each_passes p before xs) → P (before ++ xs)
  unfolding each_passes
  each_keeps P step before [] k t = rw (append-nil before) k
  each_keeps P step before (x ∷ xs) k t =
      rw (append_snoc before x xs) at
      (each_keeps P step (before ++ (x ∷ [])) xs (step before x k (and_left (p before x) _ t)) (and_right (p before x) _ t))
