-- A board read so far has room: no list of it is longer than its array, and it had room for its last record. Assumes nothing.
use Prim.Native.Nat.{ℕ, ◌≤◌, ◌<◌}
use native.Mathlib.Omega.{arith}
use mathlib.Core.List.{List, [], ◌∷◌, map, Memᴰ}
use lib.ListN.{length, length-append, length-map}
use lib.Dec.{T, ltb, lt→ltb}
use Rattle.sets.specs.Lists.{distinct}
use Rattle.sets.proofs.Laws.Lists.{all_of, all_map}
use Rattle.board.specs.Board.{Board, Hypothesis, declarations_in}
use Rattle.board.specs.File.{hypothesis, rule}
use Rattle.board.specs.Load.{no_board, filled, taking}
use Rattle.board.proofs.Laws.Load.Checks.{count-checked}
use Rattle.board.proofs.Laws.Load.Hypotheses.{hypotheses-accepted, hypotheses-declarations, hypotheses-distinct}
use Rattle.board.proofs.Laws.Load.{so_far-atoms, so_far-hypotheses, so_far-rules}
use Rattle.board.proofs.Laws.Load.Rules.{rules-length}
use Rattle.board.specs.Accepted.{AcceptedHypothesis}
use Rattle.sets.proofs.Laws.Lists.Distinct.{distinct-room}
use Rattle.board.specs.Private.Passes.{hypotheses_pass}
use Rattle.board.proofs.Laws.Load.Passes.{so_far}

-- distinct atoms below the count: no more hypotheses than atoms
pub atoms-room : (atoms : ℕ) (hs : List Hypothesis) → T (distinct (map (λ (h : Hypothesis). h.atom) hs))
    → ((h : Hypothesis) → Memᴰ h hs → AcceptedHypothesis atoms h) → length hs ≤ atoms
atoms-room atoms hs d f =
    rw (length-map hs (λ (h : Hypothesis). h.atom)) at
    (distinct-room atoms (map (λ (h : Hypothesis). h.atom) hs) d
    (rw (all_map (λ a. ltb a atoms) (λ (h : Hypothesis). h.atom) hs) (all_of _ hs (λ h m. lt→ltb h.atom atoms (f h m).atom_below))))

-- so of hypotheses that pass
pub hypotheses-length : (atoms : ℕ) (hs : List Hypothesis) → T (hypotheses_pass atoms [] hs) → length hs ≤ atoms
hypotheses-length atoms hs t = atoms-room atoms hs (hypotheses-distinct atoms hs t) (hypotheses-accepted atoms [] hs t)

-- the sizes of a board read so far
pub so_far-room : (b : Board) → T (so_far b)
    → (length b.hypotheses ≤ 128) × (length b.rules ≤ 256) × (b.atoms ≤ 128) × (1 ≤ b.atoms) × (declarations_in b.hypotheses ≤ 32)
so_far-room b h =
    let (some, most) = count-checked no_board b.atoms (so_far-atoms b h) in (
      omega (arith, hypotheses-length _ _ (so_far-hypotheses b h)),
      rules-length _ _ _ (so_far-rules b h),
      most,
      some,
      hypotheses-declarations _ _ (so_far-hypotheses b h),
    )

-- a board read so far with one hypothesis more had room for it
pub room-after-hypothesis : (b : Board) (d a w : ℕ) → T (so_far (taking b (hypothesis d a w))) → length b.hypotheses < 128
unfolding taking
room-after-hypothesis b d a w s =
    omega (arith, (so_far-room _ s).0, length-append b.hypotheses (record { declaration = d; atom = a; weight = w } ∷ []))

-- and with one rule more
pub room-after-rule : (b : Board) (h : ℕ) (places : List ℕ) → T (so_far (taking b (rule h places))) → length b.rules < 256
unfolding taking
room-after-rule b h places s = omega (arith, (so_far-room _ s).1, length-append b.rules (record { head = h; body = filled places } ∷ []))
