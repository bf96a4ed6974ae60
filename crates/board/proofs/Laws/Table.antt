-- Which tables some file loads to: those whose board is accepted and whose arrays hold that board and nothing else. The file that a board is written to is
-- one of bytes, and the test `is_table` passes exactly for the tables that some file loads to. Assumes nothing.
pub mod Arrays
pub mod Fields
pub mod Taking
pub mod Written
use mathlib.Core.Path.{◌≡◌, refl, sym, ap, ◌∙◌}
use Prim.Native.Nat.{ℕ, ◌/◌, ◌%◌}
use native.Mathlib.Omega.{arith}
use mathlib.Core.Bool.{false}
use mathlib.Core.Logic.{◌↔◌}
use mathlib.Core.List.{List, [], ◌∷◌, ◌++◌, map, flatten, Memᴰ}
use lib.Dec.{T, ltb, lt→ltb}
use lib.Pow.{are_bytes}
use borrow.Author.Tests.{lt-ltb}
use Rattle.sets.proofs.Laws.Lists.{all_of}
use Rattle.sets.proofs.Laws.Lists.Padding.{all-pad}
use Rattle.sets.proofs.Laws.Tests.{and_both, and_left, and_right, false_of_T}
use Rattle.board.specs.Sizes.{most_body, empty_place}
use Rattle.board.specs.Answers.{FileAnswer, accepted, refused_at}
use Rattle.board.specs.Board.{Board, Hypothesis, Rule}
use Rattle.board.specs.File.{low_bytes}
use Rattle.board.proofs.Laws.File.Bytes.{are_bytes_append, are_bytes_all, are_bytes_flatten}
use Rattle.board.proofs.Laws.Board.Members.{declarations_in-member}
use Rattle.board.specs.Load.{load}
use Rattle.board.specs.Accepted.{Accepted}
use Rattle.board.proofs.Laws.Accepted.{loaded-accepted}
use Rattle.board.specs.Table.{board_of, table_of, places_of, zero_table, Loads, hypothesis_bytes, rule_bytes, file_of, same_table, loads_to, is_table}
use Rattle.board.proofs.Laws.Table.Arrays.{board_of-table_of, same_table_refl, same_table→eq}
use Rattle.board.proofs.Laws.Table.Written.{load_written}
use Rattle.board.specs.declared.Table.{Table}

-- ---- the file's bytes

module _ {b : Board} (k : Accepted b) where
  -- a hypothesis is written in bytes
  hypothesis-bytes : (h : Hypothesis) → Memᴰ h b.hypotheses → T (are_bytes (hypothesis_bytes h))
  unfolding hypothesis_bytes low_bytes
  hypothesis-bytes h m =
      let own = k.hypothesis h m in
      let few = declarations_in-member m in
      rw (
        lt-ltb h.declaration 256 (omega arith),
        lt-ltb h.atom 256 (omega arith),
        lt-ltb (h.weight % 256) 256 (omega arith),
        lt-ltb (h.weight / 256 % 256) 256 (omega arith),
        lt-ltb (h.weight / 256 / 256 % 256) 256 (omega arith),
      ) tt

  -- a rule is written in bytes
  rule-bytes : (r : Rule) → Memᴰ r b.rules → T (are_bytes (rule_bytes r))
  unfolding rule_bytes places_of
  rule-bytes r m =
      let own = k.rule r m in
      rw (lt-ltb r.head 256 (omega arith))
      (are_bytes_all (places_of r)
      (all-pad (λ x. ltb x 256) most_body empty_place r.body tt (all_of _ r.body (λ a i. lt→ltb a 256 (omega (arith, own.body_below a i))))))

  -- the file that an accepted board is written to is one of bytes
  pub written_bytes : T (are_bytes (file_of b))
  unfolding file_of
  written_bytes =
      let hs : List ℕ = flatten (map hypothesis_bytes b.hypotheses) in
      let rs : List ℕ = flatten (map rule_bytes b.rules) in
      rw (lt-ltb b.atoms 256 (omega arith))
      (are_bytes_append (hs ++ rs) (4 ∷ [])
      (are_bytes_append hs rs (are_bytes_flatten hypothesis_bytes b.hypotheses hypothesis-bytes) (are_bytes_flatten rule_bytes b.rules rule-bytes)) tt)

-- ---- the test for tables

-- an answer that loads to t is a board whose table is t
loads_to-accepted : (a : FileAnswer Board) (t : Table) → T (loads_to a t) → (b : Board) × (a ≡ accepted b) × (t ≡ table_of b)
unfolding loads_to
loads_to-accepted (accepted b) t s = (b, refl, sym (same_table→eq (table_of b) t s))
loads_to-accepted (refused_at number place) t s = absurd s

-- some file loads to a table that the test passes: the one that it is written to
pub is_table→Loads : (t : Table) → T (is_table t) → Loads t
unfolding is_table
is_table→Loads t s =
    let file : List ℕ = file_of (board_of t) in
    let x = loads_to-accepted (load file) t (and_right (are_bytes file) (loads_to (load file) t) s) in
    record { file = file; bytes = and_left (are_bytes file) (loads_to (load file) t) s; board = x.0; loaded = x.1; stored = x.2 }

-- the test passes the table of an accepted board
pub accepted-is_table : {b : Board} → Accepted b → (t : Table) → t ≡ table_of b → T (is_table t)
unfolding is_table loads_to
accepted-is_table {b} k t e =
    rw (e, board_of-table_of k, load_written k)
    (and_both (are_bytes (file_of b)) (same_table (table_of b) (table_of b)) (written_bytes k) (same_table_refl (table_of b)))

-- the board of a table that some file loads to
Loads-accepted : (t : Table) (l : Loads t) → Accepted l.board
Loads-accepted t l = loaded-accepted l.file l.bytes l.board l.loaded

-- the test passes every table that some file loads to
pub Loads→isTable : (t : Table) → Loads t → T (is_table t)
Loads→isTable t l = accepted-is_table (Loads-accepted t l) t l.stored

-- the test passes exactly the tables that some file loads to: refusal 20 is for "a table handed in that no file loads to"
pub is_table_iff : (t : Table) → T (is_table t) ↔ Loads t
is_table_iff t = (is_table→Loads t, Loads→isTable t)

module _ (t : Table) (s : T (is_table t)) where
  -- the file's board is the table's
  same-board : board_of t ≡ (is_table→Loads t s).board
  same-board = let l = is_table→Loads t s in ap board_of l.stored ∙ board_of-table_of (Loads-accepted t l)

  -- a table that passes holds an accepted board ..
  pub is_table-board : Accepted (board_of t)
  is_table-board = rw same-board (Loads-accepted t (is_table→Loads t s))

  -- .. and nothing else
  pub is_table-stored : t ≡ table_of (board_of t)
  is_table-stored = rw same-board (is_table→Loads t s).stored

-- no file loads to "the table whose every field is zero", which a refused load returns: "A table has 1 to 128 atoms"
pub zero_no_table : is_table zero_table ≡ false
unfolding board_of zero_table
zero_no_table = false_of_T (is_table zero_table) (λ s. omega (arith, (is_table-board zero_table s).atoms_positive))
