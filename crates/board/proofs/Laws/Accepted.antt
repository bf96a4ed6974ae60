-- Every board that passes, and so every loaded board, is accepted; and what follows for an accepted board beside what its fields say.
-- Assumes nothing.
pub mod Exact
pub mod Passing
use Prim.Native.Nat.{ℕ, ◌≤◌}
use native.Mathlib.Omega.{arith}
use mathlib.Core.Path.{◌≡◌, sym, ◌∙◌}
use mathlib.Core.Bool.{true≢false}
use mathlib.Core.List.{List, [], Memᴰ}
use lib.ListN.{length}
use lib.Dec.{T, ltb, eqb, lt→ltb}
use lib.Pow.{are_bytes}
use borrow.Author.Tests.{eq-eqb}
use Rattle.sets.specs.Lists.{all}
use Rattle.sets.proofs.Laws.Lists.{all_of, none_at}
use Rattle.board.specs.Answers.{accepted}
use Rattle.board.specs.Board.{Board, Hypothesis, Rule, declarations, is_atom_of, is_hypothesis, total}
use Rattle.board.proofs.Laws.Board.Members.{declarations_at, declarations-member, total_positive}
use Rattle.board.specs.Load.{load}
use Rattle.board.proofs.Laws.Load.Checks.{finish-weight}
use Rattle.board.proofs.Laws.Load.Hypotheses.{hypotheses-accepted, hypotheses-distinct, hypotheses_sizes, hypotheses-numbered}
use Rattle.board.proofs.Laws.Load.{so_far-hypotheses, so_far-rules}
use Rattle.board.proofs.Laws.Load.Loaded.{loaded-passes}
use Rattle.board.proofs.Laws.Load.Room.{atoms-room, so_far-room}
use Rattle.board.proofs.Laws.Load.Rules.{rules-accepted}
use Rattle.board.specs.Accepted.{AcceptedRule, Accepted}
use Rattle.board.proofs.Laws.Holds.{BodiesBelow}
use Rattle.sets.proofs.Laws.Lists.Distinct.{distinct-members}
use Rattle.board.proofs.Laws.Load.Passes.{BoardPasses}

-- every board that passes is accepted
pub passes-accepted : (b : Board) → BoardPasses b → Accepted b
passes-accepted b p =
    let s = p.read in
    let hs = so_far-hypotheses b s in
    let room = so_far-room b s in
    record {
      atoms_positive = room.3;
      atoms_room = room.2;
      declarations_room = room.4;
      declaration_positive = λ d m. let (i, l, e) = declarations_at b m in rw e at ((hypotheses_sizes _ _ hs i).0 l);
      declaration_room = λ d m. let (i, l, e) = declarations_at b m in rw e at (hypotheses_sizes _ _ hs i).1;
      hypothesis = hypotheses-accepted _ [] _ hs;
      atoms_distinct = hypotheses-distinct _ _ hs;
      numbered = hypotheses-numbered _ _ hs;
      rules_room = room.1;
      rule = rules-accepted b [] _ room.2 (so_far-rules b s);
      weight = finish-weight b p.finished;
    }

-- and so is every loaded board
pub loaded-accepted : (file : List ℕ) → T (are_bytes file) → (b : Board) → load file ≡ accepted b → Accepted b
loaded-accepted file bytes b e = passes-accepted b (loaded-passes file bytes b e)

-- the body of an accepted rule has atoms alone
pub rule-atoms-below : {b : Board} {r : Rule} → AcceptedRule b r → T (all (λ a. ltb a b.atoms) r.body)
rule-atoms-below {b} {r} k = all_of _ r.body (λ a m. lt→ltb a b.atoms (omega (arith, k.body_below a m)))

module _ {b : Board} (k : Accepted b) where
  -- there are no more hypotheses than atoms
  pub accepted-hypotheses-room : length b.hypotheses ≤ b.atoms
  accepted-hypotheses-room = atoms-room b.atoms b.hypotheses k.atoms_distinct k.hypothesis

  -- hypotheses with equal atoms are equal
  pub accepted-same-atom : (g h : Hypothesis) → Memᴰ g b.hypotheses → Memᴰ h b.hypotheses → g.atom ≡ h.atom → g ≡ h
  accepted-same-atom = distinct-members (λ (h : Hypothesis). h.atom) b.hypotheses k.atoms_distinct

  -- no hypothesis has a head for its atom
  pub accepted-head_no_atom : (r : Rule) → Memᴰ r b.rules → (h : Hypothesis) → Memᴰ h b.hypotheses → h.atom ≡ r.head → ⊥
  unfolding is_hypothesis is_atom_of
  accepted-head_no_atom r m h n e =
      true≢false (sym (eq-eqb h.atom r.head e) ∙ none_at (λ h. eqb h.atom r.head) (k.rule r m).head_no_hypothesis n)

  -- the bodies are below the heads, as the laws of holding ask
  pub accepted-bodies-below : BodiesBelow b.rules
  accepted-bodies-below r m = (k.rule r m).body_below

  -- the total of a declaration is at least 1
  pub accepted-total_positive : (d : List Hypothesis) → Memᴰ d (declarations b) → 1 ≤ total d
  accepted-total_positive d m = total_positive d (k.declaration_positive d m) (λ h n. (k.hypothesis h (declarations-member b d m h n)).weight_positive)
