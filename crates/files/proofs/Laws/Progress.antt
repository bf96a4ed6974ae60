-- How far the loader has come, for its proof: the board read so far stands in the table, what is known of it is, and what is left to load
-- is what `load_from` gives from the next place on. Each record that passes leads to more of it. Assumes nothing.
use mathlib.Core.Path.{◌≡◌, refl, sym, ap, ◌∙◌}
use mathlib.Core.Logic.{inl, inr}
use Prim.Native.Nat.{ℕ, zero, suc, pred, ◌+◌, ◌≤◌, ◌<◌}
use native.Mathlib.Omega.{arith}
use mathlib.Core.Bool.{Bool, true, false, cond, true≢false}
use mathlib.Core.List.{List, flatten}
use lib.Dec.{T, ltb}
use lib.Pow.{are_bytes}
use lib.ListN.{length}
use Rattle.sets.specs.Lists.{pad}
use Rattle.board.specs.Sizes.{most_atoms, most_hypotheses, most_rules, most_w}
use Rattle.board.specs.Answers.{refused_at}
use Rattle.board.specs.Board.{Board, declarations_in, W}
use Rattle.board.specs.File.{Record, count, hypothesis, rule, finish, Found, next_place}
use Rattle.board.specs.Load.{no_board, first_failing, field_checks, taking, is_finish, at_the_end, load_from, load}
use Rattle.board.specs.Table.{table_of, zero_table}
use Rattle.board.proofs.Laws.Load.Passes.{so_far}
use Rattle.files.specs.Private.Seen.{SeenOf}
use Rattle.files.specs.Private.Taking.{passed_record, ending}
use Rattle.board.proofs.Laws.Load.Hypotheses.{hypotheses_sizes}
use Rattle.board.proofs.Laws.Load.Loaded.{Begun, begun_hypotheses, begun_rules, begun_atoms, taken_in}
use Rattle.files.proofs.Laws.Passed.{Passes, passed-refused}
use Rattle.board.proofs.Laws.Load.Reading.{read-accepted}
use Rattle.board.proofs.Laws.Load.Room.{hypotheses-length}
use Rattle.board.proofs.Laws.Load.Rules.{rules-length}
use Rattle.board.proofs.Laws.Load.Steps.{load_failing, load-finish, load-next}
use Rattle.board.specs.declared.Table.{Table}
use Rattle.files.specs.declared.checks.Seen.{Seen}

pub record Progress (file : List ℕ) (t : Table) (seen : Seen) (at : ℕ) : Type 0 where
  -- the board read so far, and how many records there may still be
  pub board : Board
  pub fuel : ℕ
  pub here : at ≤ length file
  pub enough : length file < fuel + at
  pub rest : load file ≡ load_from fuel file at board
  pub begun : Begun board
  pub table : t ≡ table_of board
  pub known : SeenOf board seen

-- before the first record
pub progress_start : (file : List ℕ) (s : Seen) → SeenOf no_board s → Progress file zero_table s 0
unfolding load no_board zero_table table_of pad flatten
progress_start file s k =
    record {
      board = no_board;
      fuel = suc (length file);
      here = omega arith;
      enough = omega arith;
      rest = refl;
      begun = inl refl;
      table = refl;
      known = k;
    }

-- a record that is the end is the end record
finish-of : (r : Record) → is_finish r ≡ true → r ≡ finish
unfolding is_finish
finish-of (count n) e = absurd (true≢false (sym e))
finish-of (hypothesis d a w) e = absurd (true≢false (sym e))
finish-of (rule h places) e = absurd (true≢false (sym e))
finish-of finish e = refl

module _ {file : List ℕ} {t : Table} {seen : Seen} {at : ℕ} (p : Progress file t seen at) where
  -- there is a record to come
  more : (P : ℕ → Type 0) → ((n : ℕ) → P (suc n)) → P p.fuel
  more P f = go p.fuel p.enough
    where
      go : (n : ℕ) → length file < n + at → P n
      go zero h = absurd (omega (arith, p.here))
      go (suc n) h = f n

  -- a record that does not pass ends it
  pub ends_refused : (number place : ℕ) → passed_record file at p.board ≡ refused_at number place → load file ≡ refused_at number place
  ends_refused number place e =
      p.rest ∙ more (λ n. load_from n file at p.board ≡ refused_at number place) (passed-refused file at p.board number place e)

  module _ (r : Found) (q : Passes file at p.board r) where
    -- an end record ends it
    pub ends_finished : is_finish r.found ≡ true → load file ≡ ending file at r.next p.board
    unfolding ending field_checks first_failing
    ends_finished g = p.rest ∙ more (λ n. load_from n file at p.board ≡ ending file at r.next p.board) (λ n. go n (ltb most_w (W p.board)) refl)
      where
        end : r.found ≡ finish
        end = finish-of r.found g

        go : (n : ℕ) (u : Bool) → ltb most_w (W p.board) ≡ u → load_from (suc n) file at p.board ≡ cond u (refused_at 8 at) (at_the_end file r.next p.board)
        go n true e = load_failing n file at p.board r q.placed q.read 7 (rw (end, e))
        go n false e = load-finish n file at p.board r q.placed q.read (rw (end, e)) g

    -- the next place is past this one, and no further than the end
    pub goes_further : (at < r.next) × (r.next ≤ length file)
    unfolding next_place
    goes_further =
        let d = read-accepted file at r q.read in
        let next = ap (λ (x : Found). x.next) d.same in
        (omega (arith, next), omega (arith, next, d.whole))

    module _ (bytes : T (are_bytes file)) (g : is_finish r.found ≡ false) where
      -- the board with it is one read so far
      pub next-sound : T (so_far (taking p.board r.found))
      next-sound = taken_in file bytes at p.board p.begun q.placed r q.read (q.checks g)

      -- any other record is taken
      pub goes_on : (t' : Table) (seen' : Seen) → t' ≡ table_of (taking p.board r.found) → SeenOf (taking p.board r.found) seen'
          → Progress file t' seen' r.next
      goes_on t' seen' same k = more' p.fuel p.enough p.rest
        where
          more' : (n : ℕ) → length file < n + at → load file ≡ load_from n file at p.board → Progress file t' seen' r.next
          more' zero h l = absurd (omega (arith, p.here))
          more' (suc n) h l =
              record {
                board = taking p.board r.found;
                fuel = n;
                here = goes_further.1;
                enough = omega (arith, goes_further);
                rest = l ∙ load-next n file at p.board r q.placed q.read (q.checks g) g;
                begun = inr next-sound;
                table = same;
                known = k;
              }

  -- ---- what the loader's parts ask

  -- the hypotheses have room
  pub room-hypotheses : t.hypotheses ≤ most_atoms
  unfolding table_of
  room-hypotheses =
      omega (
        arith,
        ap (λ (u : Table). u.hypotheses) p.table,
        hypotheses-length p.board.atoms p.board.hypotheses (begun_hypotheses p.board p.begun),
        begun_atoms p.board p.begun,
      )

  -- the last declaration is full at most
  pub room-last : seen.last ≤ most_hypotheses
  room-last =
      let hs = p.board.hypotheses in
      omega (arith, p.known.last, (hypotheses_sizes p.board.atoms hs (begun_hypotheses p.board p.begun) (pred (declarations_in hs))).1)

  -- the rules do not overflow their count
  pub room-rules : seen.rules ≤ most_rules
  room-rules = omega (arith, p.known.rules, rules-length p.board.atoms p.board.hypotheses p.board.rules (begun_rules p.board p.begun))
