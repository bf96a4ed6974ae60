-- The filled places of a rule's body by the highest of them, for the contracts of private functions. Assumes nothing.
use Rattle.std.specs.Prelude.{ℕ, suc, max, List, [], ◌∷◌}

-- one more than the highest number; 0 where there is none
unfoldable pub top_of : List ℕ → ℕ
top_of [] = 0
top_of (p ∷ ps) = max (suc p) (top_of ps)
