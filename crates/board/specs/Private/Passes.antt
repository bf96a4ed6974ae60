-- Which records pass their field checks, which hypotheses do so one after another, and which declaration may come next. Assumes nothing.
use Rattle.std.specs.Prelude.{ℕ, suc, ◌^◌, ◌≡◌, ◌⊎◌, Bool, true, ◌&&◌, List, [], ◌∷◌, ◌++◌, eqb, ltb}
use Rattle.board.specs.Board.{Board, Hypothesis, declarations_in}
use Rattle.board.specs.File.{Record, hypothesis}
use Rattle.board.specs.Load.{field_checks, first_failing}

-- no field check of the record fails
unfoldable pub record_passes : Board → Record → Bool
record_passes b r = eqb (first_failing (field_checks b r)) 0

-- each of them passes after those before it, the first after `before`
unfoldable pub each_passes {ℓ} : {A : Type ℓ} → (List A → A → Bool) → List A → List A → Bool
each_passes passes before [] = true
each_passes passes before (x ∷ rest) = passes before x && each_passes passes (before ++ (x ∷ [])) rest

-- a hypothesis after these; its weight has 3 bytes
unfoldable pub hypothesis_passes : ℕ → List Hypothesis → Hypothesis → Bool
hypothesis_passes atoms before h =
    record_passes (record { atoms = atoms; hypotheses = before; rules = [] }) (hypothesis h.declaration h.atom h.weight)
    && ltb h.weight (2 ^ 24)

-- hypotheses, each after those before it
abbrev pub hypotheses_pass : ℕ → List Hypothesis → List Hypothesis → Bool
hypotheses_pass atoms = each_passes (hypothesis_passes atoms)

-- d is the number of the last declaration or the next one's
abbrev pub Follows : List Hypothesis → ℕ → Type 0
Follows hs d = (suc d ≡ declarations_in hs) ⊎ (d ≡ declarations_in hs)
