-- The fields of the table of an accepted board stand. Assumes nothing.
use mathlib.Core.Path.{◌≡◌, refl}
use Prim.Native.Nat.{ℕ, ◌*◌, ◌≤◌, ◌<◌}
use native.Mathlib.Omega.{arith}
use mathlib.Core.List.{List, [], map, flatten}
use lib.Dec.{T, leb, le→leb}
use lib.ListN.{length, get_or, length-map}
use Rattle.sets.specs.Lists.{pad, zero_from}
use Rattle.sets.proofs.Laws.Lists.Indices.{at_index}
use Rattle.sets.proofs.Laws.Lists.Padding.{length-pad, drop-pad-same}
use Rattle.sets.proofs.Laws.Tests.{and_four}
use Rattle.board.specs.Sizes.{most_atoms, most_rules, most_body, most_w}
use Rattle.board.specs.Board.{Board, Hypothesis, Rule, W}
use Rattle.board.specs.Accepted.{Accepted}
use Rattle.board.proofs.Laws.Accepted.{accepted-hypotheses-room}
use Rattle.board.proofs.Laws.Accepted.Passing.{accepted-rule-zero, accepted-passes}
use Rattle.board.proofs.Laws.Load.{zero-record_passes, so_far-hypotheses, so_far-rules}
use Rattle.board.specs.Table.{board_of, places_of, table_of}
use Rattle.board.proofs.Laws.Table.Arrays.{no_rule, hypotheses_in-table_of, head-table_of, places_in-table_of, board_of-table_of}
use Rattle.board.specs.Private.Fields.{rule_stands, sizes_stand}
use Rattle.board.proofs.Laws.Table.Fields.Whole.{Sized, sizes_of, room_of}
use Rattle.board.specs.Private.Passes.{hypotheses_pass}
use Rattle.board.proofs.Laws.Load.Passes.{so_far}
use Rattle.board.proofs.Laws.Table.Taking.{length-places}
use Rattle.board.proofs.Laws.Lent.{length-rules_in}
use Rattle.board.proofs.Laws.Table.Fields.Parts.{hypotheses_of, rule_of, Stands, parts_room}

module _ {b : Board} (k : Accepted b) where
  -- it is read, to the last rule
  read : T (so_far b)
  read = (accepted-passes k).read

  -- its sizes
  table_of_sizes : T (sizes_of (table_of b))
  unfolding sizes_stand table_of
  table_of_sizes =
      and_four (leb 1 b.atoms) (leb b.atoms most_atoms) (leb (length b.hypotheses) most_atoms) (leb (length b.rules) most_rules) (
        le→leb 1 b.atoms k.atoms_positive,
        le→leb b.atoms most_atoms k.atoms_room,
        le→leb (length b.hypotheses) most_atoms (omega (arith, accepted-hypotheses-room k)),
        le→leb (length b.rules) most_rules k.rules_room,
      )

  -- its hypotheses
  table_of-hypotheses : T (hypotheses_pass (table_of b).atoms [] (hypotheses_of (table_of b)))
  table_of-hypotheses = rw (hypotheses_in-table_of b (table_of b) refl) (unfold table_of in so_far-hypotheses b read)

  -- each of its rules
  table_of-rules : (j : ℕ) → j < length b.rules → T (rule_of (table_of b) j)
  unfolding rule_stands table_of
  table_of-rules j l =
      rw (head-table_of b j, places_in-table_of k j l, hypotheses_in-table_of b (table_of b) refl)
      (zero-record_passes _ _ (accepted-rule-zero k _ (get_or b.rules j no_rule) (at_index b.rules j no_rule l) (omega (arith, length-rules_in (table_of b).head (table_of b).body j))))

  -- its W
  table_of-weight : W (board_of (table_of b)) ≤ most_w
  table_of-weight = rw (board_of-table_of k) k.weight

  -- its unused room
  table_of-room : T (room_of (table_of b))
  unfolding table_of zero_from
  table_of-room =
      let n : ℕ = length b.hypotheses in
      let of : (Hypothesis → ℕ) → List ℕ = λ f. map f b.hypotheses in
      parts_room (table_of b) (
        drop-pad-same most_atoms n 0 (of (λ h. h.declaration)) (length-map b.hypotheses _),
        drop-pad-same most_atoms n 0 (of (λ h. h.atom)) (length-map b.hypotheses _),
        drop-pad-same most_atoms n 0 (of (λ h. h.weight)) (length-map b.hypotheses _),
        drop-pad-same most_rules (length b.rules) 0 (map (λ (r : Rule). r.head) b.rules) (length-map b.rules _),
        drop-pad-same (most_body * most_rules) (most_body * length b.rules) 0 (flatten (map places_of b.rules))
            (length-places b.atoms b.hypotheses b.rules (so_far-rules b read)),
      )

  -- its arrays have their lengths
  pub table_of_sized : Sized (table_of b)
  unfolding table_of
  table_of_sized =
      let of : (f : Hypothesis → ℕ) → length (pad most_atoms 0 (map f b.hypotheses)) ≡ most_atoms =
      λ f. length-pad most_atoms 0 (map f b.hypotheses) (omega (arith, accepted-hypotheses-room k, length-map b.hypotheses f)) in
      record {
        declaration = of (λ h. h.declaration);
        atom = of (λ h. h.atom);
        weight = of (λ h. h.weight);
        head = length-pad most_rules 0 (map (λ (r : Rule). r.head) b.rules) (omega (arith, length-map b.rules (λ (r : Rule). r.head)));
        body = length-pad (most_body * most_rules) 0 (flatten (map places_of b.rules))
            (omega (arith, length-places b.atoms b.hypotheses b.rules (so_far-rules b read)));
      }

  -- all of its fields
  pub table_of_stands : Stands (table_of b)
  unfolding table_of
  table_of_stands = record { sizes = table_of_sizes; hypotheses = table_of-hypotheses; rules = table_of-rules; weight = table_of-weight; room = table_of-room }
