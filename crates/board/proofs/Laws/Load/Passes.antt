-- When a board is one that some file loads to, read off the board itself: every hypothesis passes the field checks after those before it, every rule
-- after all hypotheses and the rules before it, and the end record passes. These are definitions for the laws, which show that a board passes exactly
-- if some file loads to it. Assumes nothing.
use Prim.Native.Nat.{ℕ}
use mathlib.Core.Path.{◌≡◌}
use mathlib.Core.Bool.{Bool, ◌&&◌}
use mathlib.Core.List.{List, []}
use lib.Dec.{T, ltb, leb}
use lib.ListN.{length}
use Rattle.sets.specs.Lists.{all}
use Rattle.board.specs.Sizes.{most_body}
use Rattle.board.specs.Board.{Board, Hypothesis, Rule}
use Rattle.board.specs.File.{count, rule, finish}
use Rattle.board.specs.Load.{no_board, field_checks, first_failing}
use Rattle.board.specs.Table.{places_of}
use Rattle.board.specs.Private.Passes.{record_passes, each_passes, hypotheses_pass}

-- a rule after these; its body has atoms alone, and 8 at most
unfoldable pub rule_passes : ℕ → List Hypothesis → List Rule → Rule → Bool
rule_passes atoms hypotheses before r =
    record_passes (record { atoms = atoms; hypotheses = hypotheses; rules = before }) (rule r.head (places_of r))
    && leb (length r.body) most_body
    && all (λ a. ltb a atoms) r.body

-- rules, each after those before it
abbrev pub rules_pass : ℕ → List Hypothesis → List Rule → List Rule → Bool
rules_pass atoms hypotheses = each_passes (rule_passes atoms hypotheses)

-- the board after some records, its count among them
unfoldable pub so_far : Board → Bool
so_far b =
    record_passes no_board (count b.atoms)
    && hypotheses_pass b.atoms [] b.hypotheses
    && rules_pass b.atoms b.hypotheses [] b.rules

-- the board after all records
pub record BoardPasses (b : Board) : Type 0 where
  -- every record before the end passes
  pub read : T (so_far b)
  -- the end record passes
  pub finished : first_failing (field_checks b finish) ≡ 0
