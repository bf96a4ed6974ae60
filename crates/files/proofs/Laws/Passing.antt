-- Hypotheses in lent arrays that pass their checks one after another: the first ones pass where more do, and one more passes by its own check.
-- Assumes nothing.
use mathlib.Core.Path.{◌≡◌, sym, ap, ◌∙◌}
use Prim.Native.Nat.{ℕ, zero, suc, ◌<◌}
use native.Mathlib.Omega.{arith}
use native.Mathlib.Decide.{dec_lt}
use mathlib.Core.Bool.{Bool, false, ◌&&◌}
use mathlib.Core.List.{List, []}
use lib.Dec.{T}
use Rattle.sets.proofs.Laws.Tests.{and_both, and_left, and_right, false_of_T}
use Rattle.board.proofs.Laws.Load.Each.{each_snoc}
use Rattle.board.specs.Private.Passes.{hypothesis_passes, hypotheses_pass}
use Rattle.board.specs.Table.{hypothesis_in, hypotheses_in}
use Rattle.board.proofs.Laws.Lent.{hypotheses_in-suc}

module _ (atoms : ℕ) (ds xs ws : List ℕ) where
  -- the first n pass
  abbrev pub first_pass : ℕ → Bool
  first_pass n = hypotheses_pass atoms [] (hypotheses_in ds xs ws n)

  -- one more passes after those before it
  abbrev pub next_passes : ℕ → Bool
  next_passes i = hypothesis_passes atoms (hypotheses_in ds xs ws i) (hypothesis_in ds xs ws i)

  -- the first ones and one more
  pub first_pass-suc : (i : ℕ) → first_pass (suc i) ≡ (first_pass i && next_passes i)
  first_pass-suc i = ap (hypotheses_pass atoms []) (hypotheses_in-suc ds xs ws i) ∙ each_snoc (hypothesis_passes atoms) [] (hypotheses_in ds xs ws i) (hypothesis_in ds xs ws i)

  -- one more passes, so they all do
  pub first_pass-more : (i : ℕ) → T (first_pass i) → T (next_passes i) → T (first_pass (suc i))
  first_pass-more i p q = rw (first_pass-suc i) (and_both (first_pass i) (next_passes i) p q)

  -- where n pass, so do fewer, and each of them by itself
  pub first_pass-next : (i n : ℕ) → i < n → T (first_pass n) → T (next_passes i)
  first_pass-next i zero h t = absurd (omega arith)
  first_pass-next i (suc n) h t =
      let s : T (first_pass n && next_passes n) = rw (first_pass-suc n) at t in
      elim (dec_lt i n) [
        | yes l ↦ first_pass-next i n l (and_left (first_pass n) (next_passes n) s)
        | no l ↦ let e : i ≡ n = omega arith in rw e (and_right (first_pass n) (next_passes n) s)
      ]

  -- one that fails
  pub first_pass-fails : (i n : ℕ) → i < n → (T (next_passes i) → ⊥) → false ≡ first_pass n
  first_pass-fails i n h f = sym (false_of_T (first_pass n) (λ t. f (first_pass-next i n h t)))
