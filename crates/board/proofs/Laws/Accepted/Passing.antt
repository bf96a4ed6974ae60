-- Every accepted board passes every check, record by record. Assumes nothing.
use Prim.Native.Nat.{◌<◌}
use native.Mathlib.Omega.{arith}
use mathlib.Core.Path.{◌≡◌, refl, ap}
use mathlib.Core.Bool.{false}
use mathlib.Core.List.{List, [], ◌∷◌, ◌++◌, map, Memᴰ}
use lib.ListN.{length, length-append}
use lib.Dec.{T, eqb}
use borrow.Author.Tests.{eq-eqb, ne_eqb}
use Rattle.sets.specs.Lists.{any, keep, distinct}
use Rattle.sets.proofs.Laws.Lists.Ends.{keep_append}
use Rattle.board.specs.Board.{Board, Hypothesis, Rule, declarations_in, declaration, is_atom_of, is_hypothesis}
use Rattle.board.proofs.Laws.Board.Members.{declarations_in-member, declarations-of}
use Rattle.board.specs.File.{rule}
use Rattle.board.specs.Load.{no_board, first_failing, field_checks, filled}
use Rattle.board.proofs.Laws.Load.Checks.{count-passes, hypothesis-passes, rule-passes, finish-passes}
use Rattle.board.proofs.Laws.Load.Each.{each_of}
use Rattle.board.proofs.Laws.Filled.{length-places_of, filled-places_of, filled_first-places_of}
use Rattle.board.proofs.Laws.Load.Hypotheses.{after}
use Rattle.board.proofs.Laws.Load.{hypothesis_passes-of, rule_passes-of, so_far-of}
use Rattle.board.proofs.Laws.Load.Rules.{after_rules}
use Rattle.board.specs.Accepted.{AcceptedRule, Accepted}
use Rattle.sets.proofs.Laws.Lists.Distinct.{apart, distinct_tail}
use Rattle.board.proofs.Laws.Accepted.{rule-atoms-below}
use Rattle.board.specs.Table.{places_of}
use Rattle.board.specs.Private.Passes.{hypothesis_passes}
use Rattle.board.proofs.Laws.Load.Passes.{rule_passes, BoardPasses}

-- ---- a hypothesis between those before it and those after it

-- where no atom stands twice, its atom is none of those before
middle_new : (xs : List Hypothesis) (h : Hypothesis) (ys : List Hypothesis) → T (distinct (map (λ (k : Hypothesis). k.atom) (xs ++ (h ∷ ys)))) → is_atom_of xs h.atom ≡ false
unfolding is_atom_of any
middle_new [] h ys t = refl
middle_new (x ∷ xs) h ys t =
    rw (ne_eqb x.atom h.atom (apart (λ (k : Hypothesis). k.atom) x _ t h (mathlib.Core.List.Memᴰ.append_right xs (mathlib.Core.List.Memᴰ.head {xs = ys} refl))))
    (middle_new xs h ys (distinct_tail x.atom _ t))

-- its declaration has one hypothesis more than before it, at least
middle_room : (xs : List Hypothesis) (h : Hypothesis) (ys : List Hypothesis) → length (declaration xs h.declaration) < length (declaration (xs ++ (h ∷ ys)) h.declaration)
unfolding declaration keep
middle_room xs h ys =
    rw (keep_append (λ (k : Hypothesis). eqb k.declaration h.declaration) xs (h ∷ ys), length-append, eq-eqb h.declaration h.declaration refl) (omega arith)

-- ---- an accepted board

module _ {b : Board} (k : Accepted b) where
  -- every hypothesis passes after those before it
  hypothesis-right : (xs : List Hypothesis) (h : Hypothesis) (ys : List Hypothesis) → b.hypotheses ≡ xs ++ (h ∷ ys) → T (hypothesis_passes b.atoms xs h)
  unfolding is_hypothesis
  hypothesis-right xs h ys e =
      let m : Memᴰ h b.hypotheses = rw e (mathlib.Core.List.Memᴰ.append_right xs (mathlib.Core.List.Memᴰ.head refl)) in
      let c : h.declaration < declarations_in b.hypotheses = declarations_in-member m in
      let r : length (declaration xs h.declaration) < length (declaration b.hypotheses h.declaration) = rw e (middle_room xs h ys) in
      let own = k.hypothesis h m in
      hypothesis_passes-of (after b.atoms xs) h
      (hypothesis-passes _ _ _ _ record {
        atom_below = own.atom_below;
        declaration_room = omega arith;
        last_or_next = k.numbered xs h ys e;
        new = middle_new xs h ys (rw e at k.atoms_distinct);
        room = omega (arith, k.declaration_room _ (declarations-of b c));
        weight_positive = own.weight_positive;
      }) (omega arith)

  module _ (before : List Rule) (r : Rule) (m : Memᴰ r b.rules) (l : length before < 256) where
    -- its body stands in its places
    same_body : filled (places_of r) ≡ r.body
    same_body = filled-places_of b.atoms k.atoms_room r (rule-atoms-below (k.rule r m))

    -- no check of its record fails after fewer than 256
    pub accepted-rule-zero : first_failing (field_checks (after_rules b.atoms b.hypotheses before) (rule r.head (places_of r))) ≡ 0
    unfolding is_hypothesis
    accepted-rule-zero =
        let own : AcceptedRule b r = k.rule r m in
        rule-passes _ _ _ record {
          head_below = own.head_below;
          first = filled_first-places_of b.atoms k.atoms_room r (rule-atoms-below own);
          body_ascending = rw same_body own.body_ascending;
          head_no_hypothesis = own.head_no_hypothesis;
          body_below = rw same_body own.body_below;
          room = l;
        }

    -- so it passes
    rule-right : T (rule_passes b.atoms b.hypotheses before r)
    rule-right =
        rw same_body at
        (rule_passes-of (after_rules b.atoms b.hypotheses before) r.head (places_of r) (length-places_of r (k.rule r m).body_room) accepted-rule-zero)

  -- every rule passes after those before it
  rule-after : (xs : List Rule) (r : Rule) (ys : List Rule) → b.rules ≡ xs ++ (r ∷ ys) → T (rule_passes b.atoms b.hypotheses xs r)
  rule-after xs r ys e =
      rule-right xs r (rw e (mathlib.Core.List.Memᴰ.append_right xs (mathlib.Core.List.Memᴰ.head refl))) (omega (arith, k.rules_room, ap length e, length-append xs (r ∷ ys)))

  -- every accepted board passes
  pub accepted-passes : BoardPasses b
  accepted-passes =
      record {
        read = so_far-of b (count-passes no_board b.atoms k.atoms_positive k.atoms_room) (each_of _ [] b.hypotheses hypothesis-right)
            (each_of _ [] b.rules rule-after);
        finished = finish-passes b k.weight;
      }
