-- The arrays of a board's table give the board back, and two tables that are the same field by field are equal. Assumes nothing.
use mathlib.Core.Path.{◌≡◌, refl, sym, ap, ◌∙◌}
use Prim.Native.Nat.{ℕ, ◌<◌}
use mathlib.Core.Bool.{Bool, true, ◌&&◌}
use mathlib.Core.List.{List, [], map}
use lib.Dec.{T, eqb, eqb→eq, eqb_refl}
use lib.ListN.{length, get_or, get_or-map}
use Rattle.sets.specs.Lists.{pad, same_numbers}
use Rattle.sets.proofs.Laws.Lists.Flatten.{take-drop_flatten}
use Rattle.sets.proofs.Laws.Lists.{same_numbers_refl, same_numbers→eq}
use Rattle.sets.proofs.Laws.Lists.Padding.{get_d_pad}
use Rattle.sets.proofs.Laws.Lists.Indices.{at_index, map-below_by_index}
use Rattle.sets.proofs.Laws.Tests.{four_and, five_and, true_of_T}
use Rattle.board.specs.Sizes.{most_atoms, most_rules, most_body}
use Rattle.board.specs.Board.{Board, Hypothesis, Rule}
use Rattle.board.specs.Load.{filled}
use Rattle.board.specs.Accepted.{Accepted}
use Rattle.board.proofs.Laws.Accepted.{rule-atoms-below}
use Rattle.board.specs.Table.{board_in}
use Rattle.board.specs.Table.{places_in, rule_in, hypotheses_in, rules_in, board_of, places_of, table_of, same_table}
use Rattle.board.proofs.Laws.Filled.{length-places_of, filled-places_of}
use Rattle.board.specs.declared.Table.{Table}

-- ---- the hypotheses

-- past the end of a list of hypotheses
abbrev pub no_hypothesis : Hypothesis
no_hypothesis = record { declaration = 0; atom = 0; weight = 0 }

-- past the end of a list of rules
abbrev pub no_rule : Rule
no_rule = record { head = 0; body = [] }

-- a field, out of its padded array
field_at : {A : Type 0} (f : A → ℕ) (d : A) → f d ≡ 0 → (n : ℕ) (xs : List A) (i : ℕ) → get_or (pad n 0 (map f xs)) i 0 ≡ f (get_or xs i d)
field_at f d z n xs i = get_d_pad n 0 (map f xs) i ∙ ap (get_or (map f xs) i) (sym z) ∙ get_or-map f xs i d

-- hypotheses with equal fields are equal
hypothesis_path : {d d' a a' w w' : ℕ} → d ≡ d' → a ≡ a' → w ≡ w'
    → Path Hypothesis (record { declaration = d; atom = a; weight = w }) (record { declaration = d'; atom = a'; weight = w' })
hypothesis_path p q r = λ i. record { declaration = p i; atom = q i; weight = r i }

-- the hypotheses in the table of a board
pub hypotheses_in-table_of : (b : Board) (t : Table) → t ≡ table_of b → hypotheses_in t.declaration t.atom t.weight t.hypotheses ≡ b.hypotheses
unfolding hypotheses_in table_of
hypotheses_in-table_of b t e =
    ap (λ (u : Table). hypotheses_in u.declaration u.atom u.weight u.hypotheses) e
    ∙ map-below_by_index _ no_hypothesis b.hypotheses (λ i l. hypothesis_path (field_at (λ x. x.declaration) no_hypothesis refl most_atoms b.hypotheses i)
    (field_at (λ x. x.atom) no_hypothesis refl most_atoms b.hypotheses i) (field_at (λ x. x.weight) no_hypothesis refl most_atoms b.hypotheses i))

-- the board itself, with any rules
pub board_in-table_of : (b : Board) (t : Table) → t ≡ table_of b → board_in t.atoms t.declaration t.atom t.weight t.hypotheses b.rules ≡ b
unfolding table_of
board_in-table_of b t e =
    let k : t.atoms ≡ b.atoms = ap (λ (u : Table). u.atoms) e in
    let hs = hypotheses_in-table_of b t e in
    λ i. record { atoms = k i; hypotheses = hs i; rules = b.rules }

-- ---- the rules

-- the head of rule i in the table of a board
pub head-table_of : (b : Board) (i : ℕ) → get_or (table_of b).head i 0 ≡ (get_or b.rules i no_rule).head
unfolding table_of
head-table_of b = field_at (λ (r : Rule). r.head) no_rule refl most_rules b.rules

module _ {b : Board} (k : Accepted b) where
  -- and its places
  pub places_in-table_of : (i : ℕ) → i < length b.rules → places_in (table_of b).body i ≡ places_of (get_or b.rules i no_rule)
  unfolding table_of pad
  places_in-table_of =
      take-drop_flatten most_body places_of no_rule b.rules _ (λ j m. length-places_of (get_or b.rules j no_rule) (k.rule _ (at_index b.rules j no_rule m)).body_room)

  -- the rules in the table of a board
  rules_in-table_of : rules_in (table_of b).head (table_of b).body (length b.rules) ≡ b.rules
  unfolding rules_in
  rules_in-table_of = map-below_by_index (rule_in (table_of b).head (table_of b).body) no_rule b.rules (λ i l.
      let h = head-table_of b i in
      let body =
      ap filled (places_in-table_of i l) ∙ filled-places_of b.atoms k.atoms_room (get_or b.rules i no_rule) (rule-atoms-below (k.rule _ (at_index b.rules i no_rule l))) in
      λ j. record { head = h j; body = body j })

-- the atoms of a table's board are as many as the table says
pub board_of-atoms : (t : Table) → (board_of t).atoms ≡ t.atoms
unfolding board_of
board_of-atoms t = refl

-- the table of an accepted board has that board
pub board_of-table_of : {b : Board} → Accepted b → board_of (table_of b) ≡ b
unfolding board_of table_of
board_of-table_of {b} k =
    let rs = rules_in-table_of k in
    λ j. record { atoms = b.atoms; hypotheses = hypotheses_in-table_of b (table_of b) refl j; rules = rs j }

-- ---- tables field by field

-- tables with equal fields are equal
pub table_path : {k k' n n' m m' : ℕ} {ds ds' xs xs' ws ws' hs hs' bs bs' : List ℕ}
    → k ≡ k' → n ≡ n' → m ≡ m' → ds ≡ ds' → xs ≡ xs' → ws ≡ ws' → hs ≡ hs' → bs ≡ bs'
    → Path Table (record { atoms = k; hypotheses = n; rules = m; declaration = ds; atom = xs; weight = ws; head = hs; body = bs })
    (record { atoms = k'; hypotheses = n'; rules = m'; declaration = ds'; atom = xs'; weight = ws'; head = hs'; body = bs' })
table_path a b c d e f g h = λ i. record { atoms = a i; hypotheses = b i; rules = c i; declaration = d i; atom = e i; weight = f i; head = g i; body = h i }

-- a table is the same as itself
pub same_table_refl : (t : Table) → T (same_table t t)
unfolding same_table
same_table_refl t = simp (same_number, same_numbers_lem) tt
  where
    same_number : (n : ℕ) → eqb n n ≡ true
    same_number n = true_of_T (eqb n n) (eqb_refl n)

    same_numbers_lem : (xs : List ℕ) → same_numbers xs xs ≡ true
    same_numbers_lem xs = true_of_T (same_numbers xs xs) (same_numbers_refl xs)

-- tables of which every field is the same are equal
pub same_table→eq : (t u : Table) → T (same_table t u) → t ≡ u
unfolding same_table
same_table→eq t u s =
    let early : Bool =
    eqb t.atoms u.atoms && eqb t.hypotheses u.hypotheses && eqb t.rules u.rules && same_numbers t.declaration u.declaration in
    let k = five_and early (same_numbers t.atom u.atom) (same_numbers t.weight u.weight) (same_numbers t.head u.head) (same_numbers t.body u.body) s in
    let l =
    four_and (eqb t.atoms u.atoms) (eqb t.hypotheses u.hypotheses) (eqb t.rules u.rules) (same_numbers t.declaration u.declaration) k.0 in
    table_path (eqb→eq _ _ l.0) (eqb→eq _ _ l.1) (eqb→eq _ _ l.2) (same_numbers→eq _ _ l.3) (same_numbers→eq _ _ k.1) (same_numbers→eq _ _ k.2)
    (same_numbers→eq _ _ k.3) (same_numbers→eq _ _ k.4)
