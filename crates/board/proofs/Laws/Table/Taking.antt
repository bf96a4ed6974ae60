-- The table of a board with one record more: a store at the first unused index of each array. Assumes nothing.
use mathlib.Core.Path.{◌≡◌, refl, sym, ap, ◌∙◌}
use Prim.Native.Nat.{ℕ, ◌+◌, ◌*◌, ◌<◌}
use native.Mathlib.Omega.{arith}
use mathlib.Core.List.{List, [], ◌∷◌, ◌++◌, map, flatten, map-append}
use lib.Dec.{T}
use lib.ListN.{length, take, drop, set, length-append, length-map}
use Rattle.sets.specs.Lists.{pad}
use Rattle.sets.proofs.Laws.Lists.Flatten.{flatten_map_snoc}
use Rattle.sets.proofs.Laws.Lists.Padding.{set-pad, splice_pad}
use Rattle.board.specs.Sizes.{most_atoms, most_rules, most_body}
use Rattle.board.specs.Board.{Board, Hypothesis, Rule}
use Rattle.board.specs.File.{count, hypothesis, rule}
use Rattle.board.specs.Load.{filled, filled_first, taking}
use Rattle.board.proofs.Laws.Load.Each.{each_keeps}
use Rattle.board.proofs.Laws.Load.Rules.{rule_passes-length}
use Rattle.board.specs.Table.{places_of, table_of}
use Rattle.board.proofs.Laws.Load.Passes.{rule_passes, rules_pass}
use Rattle.board.proofs.Laws.Table.Arrays.{table_path}
use Rattle.board.proofs.Laws.Filled.{length-places_of, places_of-filled}
use Rattle.board.specs.declared.Table.{Table}

-- a field of one element more
field_snoc {ℓ} : {A : Type ℓ} (f : A → ℕ) (n : ℕ) (xs : List A) (x : A) → length xs < n
    → set (pad n 0 (map f xs)) (length xs) (f x) ≡ pad n 0 (map f (xs ++ (x ∷ [])))
field_snoc f n xs x h =
    ap (λ (i : ℕ). set (pad n 0 (map f xs)) i (f x)) (sym (length-map xs f))
    ∙ set-pad n 0 (map f xs) (f x) (omega (arith, length-map xs f))
    ∙ ap (pad n 0) (sym (map-append f xs (x ∷ [])))

-- ---- one record more

module _ (b : Board) (t : Table) (e : t ≡ table_of b) where
  -- a count more
  pub table_of-count : (n : ℕ)
      → record {
        atoms = n;
        hypotheses = t.hypotheses;
        rules = t.rules;
        declaration = t.declaration;
        atom = t.atom;
        weight = t.weight;
        head = t.head;
        body = t.body;
      }
      ≡ table_of (taking b (count n))
  unfolding table_of taking
  table_of-count n = rw e

  -- a hypothesis more
  pub table_of-hypothesis : (d a w : ℕ) → length b.hypotheses < most_atoms
      → record {
        atoms = t.atoms;
        hypotheses = t.hypotheses + 1;
        rules = t.rules;
        declaration = set t.declaration t.hypotheses d;
        atom = set t.atom t.hypotheses a;
        weight = set t.weight t.hypotheses w;
        head = t.head;
        body = t.body;
      }
      ≡ table_of (taking b (hypothesis d a w))
  unfolding table_of taking
  table_of-hypothesis d a w h =
      let new : Hypothesis = record { declaration = d; atom = a; weight = w } in
      rw e
      (table_path refl (sym (length-append b.hypotheses (new ∷ []))) refl (field_snoc (λ (x : Hypothesis). x.declaration) most_atoms b.hypotheses new h)
      (field_snoc (λ (x : Hypothesis). x.atom) most_atoms b.hypotheses new h) (field_snoc (λ (x : Hypothesis). x.weight) most_atoms b.hypotheses new h) refl refl)

-- rules that pass have eight places each
pub length-places : (atoms : ℕ) (hypotheses : List Hypothesis) (rs : List Rule) → T (rules_pass atoms hypotheses [] rs)
    → length (flatten (map places_of rs)) ≡ most_body * length rs
unfolding flatten
length-places atoms hypotheses rs =
    each_keeps (rule_passes atoms hypotheses) (λ l. length (flatten (map places_of l)) ≡ most_body * length l)
    (λ before r p h. ap length (flatten_map_snoc places_of before r) ∙ length-append (flatten (map places_of before)) (places_of r)
    ∙ omega (arith, length-append before (r ∷ []), length-places_of r (rule_passes-length atoms hypotheses before r h))) [] rs (omega arith)

module _ (b : Board) (t : Table) (e : t ≡ table_of b) where
  -- a rule more
  pub table_of-rule : (h : ℕ) (places : List ℕ) → T (rules_pass b.atoms b.hypotheses [] b.rules) → length b.rules < most_rules → length places ≡ most_body → T (filled_first places)
      → (bs : List ℕ) → bs ≡ take (8 * t.rules) t.body ++ places ++ drop (8 * t.rules + 8) t.body
      → record {
        atoms = t.atoms;
        hypotheses = t.hypotheses;
        rules = t.rules + 1;
        declaration = t.declaration;
        atom = t.atom;
        weight = t.weight;
        head = set t.head t.rules h;
        body = bs;
      }
      ≡ table_of (taking b (rule h places))
  unfolding table_of taking places_of
  table_of-rule h places s room eight first bs put =
      let new : Rule = record { head = h; body = filled places } in
      let rs : List Rule = b.rules in
      let long : length (flatten (map places_of rs)) ≡ 8 * length rs = length-places _ _ rs s in
      let same : places_of new ≡ places = places_of-filled h places eight first in
      rw (put, e)
      (table_path refl refl (sym (length-append rs (new ∷ []))) refl refl refl (field_snoc (λ (x : Rule). x.head) most_rules rs new room)
      (ap (λ (k : ℕ). take (8 * length rs) (pad 2048 0 (flatten (map places_of rs))) ++ places ++ drop (8 * length rs + k) (pad 2048 0 (flatten (map places_of rs)))) (sym eight)
      ∙ splice_pad 2048 (8 * length rs) 0 (flatten (map places_of rs)) places long (omega arith)
      ∙ rw (flatten_map_snoc places_of rs new, same)))
