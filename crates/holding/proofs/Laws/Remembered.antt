-- Laws of what holds by the rules that are lent, rule by rule and body place by body place, and of the answers found so far. Assumes nothing.
use Rattle.std.specs.Prelude.{Option, Some, None}
use Rattle.std.specs.List.{list_any}
use Rattle.std.specs.Option.{ForSome}
use Prim.Native.Nat.{ℕ, ◌+◌, ◌*◌, ◌≤◌, ◌<◌}
use native.Mathlib.Omega.{arith}
use native.Mathlib.Decide.{dec_lt, ℕ_discrete}
use mathlib.Core.Path.{◌≡◌, sym, ap, ◌∙◌}
use mathlib.Core.Bool.{Bool, true, false, ◌||◌, or-true}
use mathlib.Core.List.{List, Memᴰ}
use lib.Dec.{T_not, not_T, eqb, eqb→eq, eqb_refl, T}
use lib.ListN.{length, get_or, drop, set, replicate, length-take, length-drop, length-replicate, get_or-replicate, get_or-eq_default}
use lib.Seq.{get_or-take, get_or-drop, get_or-set_same, get_or-set_other, set_out}
use Rattle.sets.specs.Lists.{any, among, below}
use Rattle.sets.proofs.Laws.Lists.{all_at, all_of, any-map, keep-of, keep_at, list_any-any}
use Rattle.sets.proofs.Laws.Lists.Indices.{at_index, index_of, any_below, none_below}
use Rattle.sets.proofs.Laws.Tests.{T_of_true, true_of_T, false_of_T, and_both, and_left, and_right}
use Rattle.board.specs.Sizes.{most_atoms, most_body, empty_place, most_rules}
use Rattle.board.specs.Load.{filled}
use Rattle.board.specs.Table.{places_in, rule_in, rules_in, board_of, is_table}
use Rattle.board.proofs.Laws.Lent.{rules_in-of}
use Rattle.board.specs.Holds.{rule_holds, in_state}
use Rattle.board.proofs.Laws.Holds.{rule_gives, holds-step}
use Rattle.holding.specs.Private.Remembered.{rules_alone, lent_holds, SoundRules, Remembered}
use Rattle.board.proofs.Laws.Accepted.{accepted-bodies-below}
use Rattle.board.proofs.Laws.Table.{is_table-board}
use Rattle.board.proofs.Laws.Table.Fields.{is_table_stands}
use Rattle.board.proofs.Laws.Table.Fields.Parts.{sizes_parts}
use Rattle.board.specs.declared.Table.{Table}

-- ---- the answers found so far

-- a store of what is rightly found
pub remembered_set : (f : ℕ → Bool) (known : List (Option Bool)) → Remembered f known → (a : ℕ) (found : Bool) → found ≡ f a
    → Remembered f (set known a (Some found))
remembered_set f known h a found r = record { right = λ x. go x (ℕ_discrete x a) (dec_lt a (length known)) }
  where
    go : (x : ℕ) → Dec (x ≡ a) → Dec (a < length known) → ForSome (get_or (set known a (Some found)) x None) (λ y. y ≡ f x)
    go x (yes e) (yes l) = rw (e, get_or-set_same known a (Some found) None l) (λ y q. let same : found ≡ y = cc in sym same ∙ r)
    go x (yes e) (no l) = rw (set_out known a (Some found) (omega arith)) (h.right x)
    go x (no n) d = rw (get_or-set_other known a x (Some found) None n) (h.right x)

-- nothing is found yet
pub remembered_none : (f : ℕ → Bool) (n : ℕ) → Remembered f (replicate n None)
remembered_none f n = record { right = λ x. rw (nothing x (dec_lt x n)) (λ y q. let none : ⊥ = cc in absurd none) }
  where
    nothing : (x : ℕ) → Dec (x < n) → ◌≡◌ {A = Option Bool} (get_or (replicate n None) x None) None
    nothing x (yes l) = get_or-replicate n x None None l
    nothing x (no l) = get_or-eq_default (replicate n None) None (rw length-replicate (omega arith))

-- ---- a rule's body, by its places

module _ (head body : List ℕ) (i : ℕ) where
  -- a filled place has a body atom
  pub filled-here : most_body * i + most_body ≤ length body → (k : ℕ) → k < most_body → (get_or body (most_body * i + k) 0 ≡ empty_place → ⊥)
      → Memᴰ (get_or body (most_body * i + k) 0) (rule_in head body i).body
  unfolding filled
  filled-here room k l f =
      let size : length (places_in body i) ≡ most_body = simp (length-take, length-drop) (omega arith) in
      let here : get_or (places_in body i) k 0 ≡ get_or body (most_body * i + k) 0 = rw (get_or-take, get_or-drop) in
      keep-of _ (rw here at (at_index (places_in body i) k 0 (omega arith)))
      (not_T (eqb (get_or body (most_body * i + k) 0) empty_place) (λ t. f (eqb→eq _ empty_place t)))

  -- a body atom stands at a filled place
  pub filled_at : {x : ℕ} → Memᴰ x (rule_in head body i).body → (k : ℕ) × (k < most_body) × (get_or body (most_body * i + k) 0 ≡ x) × (x ≡ empty_place → ⊥)
  unfolding filled
  filled_at {x} m =
      let places = places_in body i in
      let (mem, full) = keep_at _ places m in
      let (k, l, e) = index_of 0 mem in
      let short : k < most_body = omega (arith, length-take most_body (drop (most_body * i) body)) in
      let here = get_or-take most_body (drop (most_body * i) body) k 0 short ∙ get_or-drop (most_body * i) body k 0 in
      (k, short, sym here ∙ e, λ q. T_not (eqb x empty_place) full (rw q (eqb_refl empty_place)))

module _ (holding : ℕ → Bool) (head body : List ℕ) (i : ℕ) where
  -- a rule holds where every filled place's atom does
  pub rule_everywhere : ((k : ℕ) → k < most_body → (get_or body (most_body * i + k) 0 ≡ empty_place → ⊥) → true ≡ holding (get_or body (most_body * i + k) 0))
      → true ≡ rule_holds holding (rule_in head body i)
  unfolding rule_holds
  rule_everywhere h = sym (true_of_T _ (all_of holding _ (λ x m. let (k, l, e, f) = filled_at head body i m in rw e at (T_of_true (sym (h k l (rw e f)))))))

  -- a rule does not hold where one filled place's atom does not
  pub rule-not-here : most_body * i + most_body ≤ length body → (k : ℕ) → k < most_body → (get_or body (most_body * i + k) 0 ≡ empty_place → ⊥)
      → false ≡ holding (get_or body (most_body * i + k) 0) → false ≡ rule_holds holding (rule_in head body i)
  unfolding rule_holds
  rule-not-here room k l f e = sym (false_of_T _ (λ t. rw (← e) at (all_at holding t (filled-here head body i room k l f))))

-- ---- what holds

-- whether a slice contains an atom is whether the atom is chosen in that state
pub contains-in_state : (state : List ℕ) (a : ℕ) → list_any (λ y. eqb y a) state ≡ in_state state a
unfolding in_state among
contains-in_state state a = list_any-any _ state

-- rule i is one of a's rules and holds
abbrev pub lent_gives : List ℕ → List ℕ → ℕ → List ℕ → ℕ → ℕ → Bool
lent_gives head body n state a i = rule_gives (lent_holds head body n state) a (rule_in head body i)

module _ (head body : List ℕ) (n : ℕ) (state : List ℕ) (sound : SoundRules head body n) (a : ℕ) where
  -- an atom holds if it is chosen or if one of the first n rules gives it
  by_index : lent_holds head body n state a ≡ (in_state state a || any (lent_gives head body n state a) (below n))
  unfolding rules_in
  by_index = holds-step (in_state state) (rules_alone (rules_in head body n)) a sound.low ∙ ap (◌||◌ (in_state state a)) (any-map _ _ (below n))

  -- a chosen atom holds
  pub lent-chosen : true ≡ in_state state a → true ≡ lent_holds head body n state a
  lent-chosen e = rw (by_index, ← e)

  -- an atom with a rule that holds, holds
  pub lent-rule : (i : ℕ) → i < n → get_or head i 0 ≡ a → true ≡ rule_holds (lent_holds head body n state) (rule_in head body i)
      → true ≡ lent_holds head body n state a
  lent-rule i l e f =
      let gives = any_below (lent_gives head body n state a) n i l (and_both (eqb (get_or head i 0) a) _ (rw e (eqb_refl a)) (T_of_true (sym f))) in
      rw (by_index, gives, or-true)

  -- an atom that is not chosen and has no rule that holds, does not hold
  pub lent_none : false ≡ in_state state a
      → ((i : ℕ) → i < n → get_or head i 0 ≡ a → false ≡ rule_holds (lent_holds head body n state) (rule_in head body i))
      → false ≡ lent_holds head body n state a
  lent_none e h =
      let none = none_below (lent_gives head body n state a) n (λ i l t. let own : Bool = eqb (get_or head i 0) a in
      rw (← h i l (eqb→eq (get_or head i 0) a (and_left own _ t))) at (and_right own _ t)) in
      rw (by_index, ← e, none)

-- a filled place of a rule has an atom below the rule's head
module _ (head body : List ℕ) (n : ℕ) (sound : SoundRules head body n) (i : ℕ) (l : i < n) where
  -- the rule's places are in the array
  pub lent-room : most_body * i + most_body ≤ length body
  lent-room = omega (arith, sound.room)

  -- an atom at a filled place is below the head
  pub lent-low : (k : ℕ) → k < most_body → (get_or body (most_body * i + k) 0 ≡ empty_place → ⊥) → get_or body (most_body * i + k) 0 < get_or head i 0
  lent-low k j f =
      sound.low (rule_in head body i) (rules_in-of head body n i l) _ (filled-here head body i lent-room k j f)

-- ---- a table that some file loads to

-- its counts are within their limits
pub table-sizes : (t : Table) → T (is_table t) → (1 ≤ t.atoms) × (t.atoms ≤ most_atoms) × (t.hypotheses ≤ most_atoms) × (t.rules ≤ most_rules)
table-sizes t s = sizes_parts t (is_table_stands t s).sizes

-- its rules are sound
pub table-sound : (t : Table) → T (is_table t) → length t.body ≡ most_body * most_rules → SoundRules t.head t.body t.rules
unfolding board_of
table-sound t s long =
    let b = is_table-board t s in
    let size = table-sizes t s in
    record {
      few = omega (arith, size);
      room = omega (arith, size);
      heads = λ i h. omega (arith, (b.rule _ (rules_in-of t.head t.body t.rules i h)).head_below);
      low = accepted-bodies-below b;
    }
