-- What the checks know of the records so far (`SeenOf`) answers what they ask: whether an atom is a hypothesis, and how many hypotheses the last
-- declaration and the next have; and one record more keeps it. Assumes nothing.
use mathlib.Core.Path.{◌≡◌, refl, sym, ap, ◌∙◌}
use mathlib.Core.Logic.{inl, inr}
use Prim.Native.Nat.{ℕ, suc, pred, max, ◌+◌, ◌≤◌, ◌<◌}
use native.Mathlib.Omega.{arith}
use mathlib.Core.List.{List, [], ◌∷◌, ◌++◌, map-append}
use lib.ListN.{length, length-append}
use borrow.Author.Tests.{lt-ltb, ne_eqb}
use Rattle.sets.specs.Lists.{keep}
use Rattle.sets.specs.Sets.{most_atoms, member, set_of}
use Rattle.sets.proofs.Laws.Sets.{member-set_of, set_of_snoc}
use Rattle.sets.specs.Masks.{mask_means, with_atom}
use Rattle.sets.specs.declared.mask.Mask.{Mask}
use Rattle.board.specs.Board.{Board, Hypothesis, Rule, declarations_in, declaration, is_hypothesis}
use Rattle.board.specs.File.{hypothesis}
use Rattle.board.specs.Load.{taking}
use Rattle.board.specs.Holds.{atoms_of}
use Rattle.board.proofs.Laws.Board.{is_atom_of-among, declarations_in_snoc, declaration_snoc_same}
use Rattle.board.specs.Private.Passes.{Follows}
use Rattle.files.specs.Private.Seen.{SeenOf}
use Rattle.files.specs.declared.checks.Seen.{Seen}

-- before the first hypothesis
pub seen_none : (atoms : ℕ) (m : Mask) → mask_means m ≡ 0
    → SeenOf (record { atoms = atoms; hypotheses = []; rules = [] }) (record { atoms = atoms; rules = 0; declarations = 0; last = 0; hypotheses = m })
unfolding declarations_in declaration keep atoms_of set_of
seen_none atoms m e = record { atoms = refl; rules = refl; declarations = refl; last = refl; hypotheses = e }

-- a declaration that has not begun has no hypotheses
declaration_past : (hs : List Hypothesis) (d : ℕ) → declarations_in hs ≤ d → declaration hs d ≡ []
unfolding declarations_in declaration keep
declaration_past [] d l = refl
declaration_past (h ∷ hs) d l = rw (ne_eqb h.declaration d (λ e. omega arith)) (declaration_past hs d (omega arith))

module _ {b : Board} {s : Seen} (k : SeenOf b s) where
  -- an atom is in the set exactly if it is a hypothesis
  pub seen_member : (a : ℕ) → member a (mask_means s.hypotheses) ≡ is_hypothesis b a
  unfolding is_hypothesis atoms_of
  seen_member a = ap (member a) k.hypotheses ∙ member-set_of a (atoms_of b.hypotheses) ∙ sym (is_atom_of-among b.hypotheses a)

  -- the next declaration has none yet
  pub seen_next : (d : ℕ) → d ≡ s.declarations → length (declaration b.hypotheses d) ≡ 0
  seen_next d e = ap length (declaration_past b.hypotheses d (omega (arith, k.declarations)))

  -- the last one has as many as were counted
  pub seen_last : (d : ℕ) → Follows b.hypotheses d → (d ≡ s.declarations → ⊥) → length (declaration b.hypotheses d) ≡ s.last
  seen_last d (inl e) f = let same : d ≡ pred (declarations_in b.hypotheses) = omega arith in rw same (sym k.last)
  seen_last d (inr e) f = absurd (f (e ∙ sym k.declarations))

  -- one hypothesis more, of the last declaration or the next
  pub seen_more : (d a w size : ℕ) (m : Mask) → Follows b.hypotheses d → size ≡ length (declaration b.hypotheses d) → a < most_atoms
      → mask_means m ≡ with_atom a (mask_means s.hypotheses)
      → SeenOf (taking b (hypothesis d a w)) (record { atoms = s.atoms; rules = s.rules; declarations = d + 1; last = size + 1; hypotheses = m })
  unfolding taking atoms_of with_atom
  seen_more d a w size m f n l e =
      let hs = b.hypotheses in
      let h : Hypothesis = record { declaration = d; atom = a; weight = w } in
      let all : declarations_in (hs ++ (h ∷ [])) ≡ suc d = declarations_in_snoc hs h ∙ begun f in
      let more : length (declaration (hs ++ (h ∷ [])) d) ≡ size + 1 =
      ap length (declaration_snoc_same hs h d refl) ∙ length-append (declaration hs d) (h ∷ []) ∙ omega (arith, n) in
      record {
        atoms = k.atoms;
        rules = k.rules;
        declarations = omega (arith, all);
        last = rw all (sym more);
        hypotheses = e
            ∙ rw (lt-ltb a most_atoms l, k.hypotheses)
            (sym (set_of_snoc a (atoms_of hs)) ∙ ap set_of (sym (map-append (λ (x : Hypothesis). x.atom) hs (h ∷ []))));
      }
    where
      begun : Follows b.hypotheses d → max (declarations_in b.hypotheses) (suc d) ≡ suc d
      begun (inl e) = omega arith
      begun (inr e) = omega arith

  -- the same with other rules
  pub seen_rules : (rs : List Rule) (n : ℕ) → n ≡ length rs
      → SeenOf (record { atoms = b.atoms; hypotheses = b.hypotheses; rules = rs })
      (record { atoms = s.atoms; rules = n; declarations = s.declarations; last = s.last; hypotheses = s.hypotheses })
  seen_rules rs n e = record { atoms = k.atoms; rules = e; declarations = k.declarations; last = k.last; hypotheses = k.hypotheses }

  -- one rule more
  pub seen_rule : (r : Rule) → SeenOf (record { atoms = b.atoms; hypotheses = b.hypotheses; rules = b.rules ++ (r ∷ []) })
      (record { atoms = s.atoms; rules = s.rules + 1; declarations = s.declarations; last = s.last; hypotheses = s.hypotheses })
  seen_rule r = seen_rules (b.rules ++ (r ∷ [])) (s.rules + 1) (omega (arith, k.rules, length-append b.rules (r ∷ [])))
