-- A table whose fields stand holds a board that passes, and nothing else. Assumes nothing.
use mathlib.Core.Path.{◌≡◌, refl, sym, ap, ◌∙◌, fun_ext}
use Prim.Native.Nat.{ℕ, zero, suc, ◌+◌, ◌*◌, ◌≤◌, ◌<◌}
use native.Mathlib.Omega.{arith}
use native.Mathlib.Nat.{mul-suc}
use mathlib.Core.List.{List, [], map, map-map, flatten}
use lib.Dec.{T}
use lib.ListN.{length, get_or, take, length-take, length-drop}
use lib.Seq.{take-add}
use Rattle.sets.specs.Lists.{pad, below, zero_from}
use Rattle.sets.proofs.Laws.Lists.Flatten.{flatten_map_snoc}
use Rattle.sets.proofs.Laws.Lists.Padding.{pad-take}
use Rattle.sets.proofs.Laws.Lists.Indices.{map_get_d_take}
use Rattle.board.specs.Sizes.{most_atoms, most_rules, most_body}
use Rattle.board.specs.Board.{Hypothesis, Rule}
use Rattle.board.specs.File.{rule}
use Rattle.board.specs.Load.{no_board, field_checks, first_failing, taking}
use Rattle.board.proofs.Laws.Load.Checks.{rule-filled_first, count-passes, finish-passes}
use Rattle.board.proofs.Laws.Load.{record_passes-zero, so_far-of, so_far-rule}
use Rattle.board.proofs.Laws.Load.Rules.{after_rules}
use Rattle.board.specs.Table.{hypothesis_in, places_in, rule_in, hypotheses_in, rules_in, board_of, places_of, table_of}
use Rattle.board.specs.Private.Fields.{rule_stands}
use Rattle.board.proofs.Laws.Table.Fields.Whole.{Sized}
use Rattle.board.specs.Private.Passes.{each_passes, hypotheses_pass}
use Rattle.board.proofs.Laws.Load.Passes.{so_far, BoardPasses}
use Rattle.board.proofs.Laws.Filled.{places_of-filled}
use Rattle.board.proofs.Laws.Table.Arrays.{table_path}
use Rattle.board.proofs.Laws.Lent.{length-hypotheses_in, rules_in-suc, rules_in-zero, length-rules_in}
use Rattle.board.proofs.Laws.Table.Fields.Parts.{hypotheses_of, Stands, sizes_parts, room_parts}
use Rattle.board.specs.declared.Table.{Table}

module _ (atoms : ℕ) (hs : List Hypothesis) (head body : List ℕ) where
  -- eight places of an array that has as many
  eight_places : (j : ℕ) → most_body * suc j ≤ length body → length (places_in body j) ≡ most_body
  eight_places j l = simp (length-take, length-drop) (omega (arith, mul-suc 8 j))

  -- the record of a rule that stands passes
  stands_zero : (j : ℕ) → T (rule_stands atoms hs head body j)
      → first_failing (field_checks (after_rules atoms hs (rules_in head body j)) (rule (get_or head j 0) (places_in body j))) ≡ 0
  unfolding rule_stands
  stands_zero j s = record_passes-zero _ _ s

  -- the first n rules are read after the hypotheses, if each of them stands
  rules-so_far : 1 ≤ atoms → atoms ≤ most_atoms → T (hypotheses_pass atoms [] hs) → (n : ℕ) → most_body * n ≤ length body
      → ((j : ℕ) → j < n → T (rule_stands atoms hs head body j)) → T (so_far (after_rules atoms hs (rules_in head body n)))
  unfolding taking each_passes
  rules-so_far one most h zero l s = rw rules_in-zero (so_far-of (after_rules atoms hs []) (count-passes no_board atoms one most) h tt)
  rules-so_far one most h (suc n) l s =
      rw rules_in-suc
      (so_far-rule (after_rules atoms hs (rules_in head body n)) (get_or head n 0) (places_in body n)
      (rules-so_far one most h n (omega arith) (λ j k. s j (omega arith))) (eight_places n l) (stands_zero n (s n (omega arith))))

  -- the places of the first n rules are what stands in the array
  rules-places : (n : ℕ) → most_body * n ≤ length body → ((j : ℕ) → j < n → T (rule_stands atoms hs head body j))
      → flatten (map places_of (rules_in head body n)) ≡ take (most_body * n) body
  unfolding places_of flatten
  rules-places zero l s = rw rules_in-zero
  rules-places (suc n) l s =
      let same : places_of (rule_in head body n) ≡ places_in body n =
      places_of-filled (get_or head n 0) (places_in body n) (eight_places n l) (rule-filled_first _ _ (places_in body n) (stands_zero n (s n (omega arith)))) in
      let next : most_body * suc n ≡ most_body * n + most_body = omega arith in
      rw (rules_in-suc, flatten_map_snoc, same, rules-places n (omega arith) (λ j k. s j (omega arith)), next)
      (sym (take-add (most_body * n) most_body body))

-- an array with zeros after its first k elements holds these and nothing else
array_stored : (n k : ℕ) (array xs : List ℕ) → length array ≡ n → k ≤ n → T (zero_from k array) → xs ≡ take k array → array ≡ pad n 0 xs
unfolding zero_from
array_stored n k array xs e l z q = sym (rw q (pad-take n k 0 array e l z))

-- a field of each of the first k, which stands in an array
field_stored {ℓ} : {A : Type ℓ} (f : A → ℕ) (at : ℕ → A) (n k : ℕ) (array : List ℕ) → ((i : ℕ) → f (at i) ≡ get_or array i 0) → length array ≡ n → k ≤ n
    → T (zero_from k array) → array ≡ pad n 0 (map f (map at (below k)))
field_stored f at n k array e w l z =
    array_stored n k array (map f (map at (below k))) w l z
    (map-map f at (below k) ∙ ap (λ (g : ℕ → ℕ). map g (below k)) (fun_ext e) ∙ map_get_d_take 0 array k (omega arith))

-- the board of a table whose fields stand
module _ (t : Table) (sized : Sized t) (s : Stands t) where
  -- the rules have room for their places
  places-room : most_body * t.rules ≤ length t.body
  places-room = omega (arith, sized.body, (sizes_parts t s.sizes).3)

  -- it passes
  pub stands_passes : BoardPasses (board_of t)
  unfolding board_of
  stands_passes =
      let k = sizes_parts t s.sizes in
      record {
        read = rules-so_far t.atoms (hypotheses_of t) t.head t.body k.0 k.1 s.hypotheses t.rules places-room s.rules;
        finished = finish-passes (board_of t) s.weight;
      }

  -- the table holds it and nothing else
  pub stands_stored : t ≡ table_of (board_of t)
  unfolding board_of table_of hypotheses_in rules_in
  stands_stored =
      let k = sizes_parts t s.sizes in
      let z = room_parts t s.room in
      let at = hypothesis_in t.declaration t.atom t.weight in
      table_path refl (sym (length-hypotheses_in t.declaration t.atom t.weight t.hypotheses)) (sym (length-rules_in t.head t.body t.rules))
      (field_stored (λ (h : Hypothesis). h.declaration) at most_atoms t.hypotheses t.declaration (λ i. refl) sized.declaration k.2 z.0)
      (field_stored (λ (h : Hypothesis). h.atom) at most_atoms t.hypotheses t.atom (λ i. refl) sized.atom k.2 z.1)
      (field_stored (λ (h : Hypothesis). h.weight) at most_atoms t.hypotheses t.weight (λ i. refl) sized.weight k.2 z.2)
      (field_stored (λ (r : Rule). r.head) (rule_in t.head t.body) most_rules t.rules t.head (λ i. refl) sized.head k.3 z.3)
      (array_stored (most_body * most_rules) (most_body * t.rules) t.body _ sized.body (omega arith) z.4
      (rules-places t.atoms (hypotheses_of t) t.head t.body t.rules places-room s.rules))
