-- How long a listing can be. Assumes nothing.
use Prim.Native.Nat.{ℕ, suc, ◌+◌, ◌*◌, ◌^◌, ◌≤◌, ◌<◌}
use native.Mathlib.Omega.{arith}
use mathlib.Core.Path.{◌≡◌, refl}
use mathlib.Core.Bool.{Bool, true, false, not, ◌||◌, cond}
use mathlib.Core.List.{List, [], ◌∷◌, ◌++◌, Memᴰ}
use lib.Dec.{T, eqb, leb, ltb, lit<}
use lib.ListN.{length, length-append, get_or, take}
use Rattle.sets.specs.Lists.{any, ascending}
use Rattle.sets.specs.Sets.{members, size}
use Rattle.sets.proofs.Laws.Lists.Flatten.{flatten_length}
use Rattle.sets.proofs.Laws.Sets.Members.{members-below}
use Rattle.board.specs.Answers.{Answer, granted, refused, refusal_number}
use Rattle.board.specs.declared.Refusal.{Refusal}
use Rattle.board.specs.declared.Refusal.TheVariants as refusal
use Rattle.board.specs.Board.{Board, W}
use Rattle.board.specs.Sizes.{most_declarations, most_w}
use Rattle.board.specs.Table.{table_of, board_of, is_table}
use Rattle.board.specs.declared.Table.{Table}
use Rattle.board.proofs.Promise.{Accepted, weight_of-le-W, board_of-table_of}
use Rattle.search.specs.Order.{Line, finished}
use Rattle.search.specs.Search.{Search, bench, opening, Ending, done, more, stopped, Ran, run}
use Rattle.search.specs.Store.{stored_of, entry_fits}
use Rattle.search.specs.EntryPoints.{most_asked, open_question, RunAnswer, run_search}
use Rattle.search.specs.Listing.{bytes_of, decimal, line_text, ending_text, last_text, ran_text, refused_text, refused_file_text, opened_text, asked_text}
use Rattle.search.proofs.Laws.Explanations.Choices.{choice_one, choice_size}
use Rattle.search.proofs.Laws.Ends.{low-le-W, high-le-W}
use Rattle.search.proofs.Laws.Search.Runs.{Stops, ComesTo, run_comes, run-steps, run_stops}
use Rattle.search.proofs.Laws.Store.{Formed, search_of-stored_of}
use Rattle.search.proofs.Laws.Store.Fits.{entry_choice, entry-weight, fits_line}
use Rattle.search.proofs.Laws.Store.Steps.{step-formed, opening-formed}
use Rattle.search.proofs.Laws.EntryPoints.{answered, run_search-answers, opened-question}
use Rattle.text.specs.Lent.{most_text}
use Rattle.text.proofs.Laws.Decimal.{decimal-length}

-- ---- a line

-- an atom after a blank
atom-length : (a : ℕ) → a < 128 → length (bytes_of " " ++ decimal a) ≤ 4
unfolding bytes_of
atom-length a l = simp length-append (omega (arith, decimal-length 2 a (omega arith)))

-- a line of 16 digits and 32 atoms
line-length : (l : Line) → l.weight ≤ most_w → size l.chosen ≤ most_declarations → length (line_text l) ≤ 145
unfolding line_text size bytes_of
line-length l w s =
    simp length-append (omega (
      arith,
      decimal-length 15 l.weight (omega arith),
      flatten_length (λ a. bytes_of " " ++ decimal a) 4 (members l.chosen) (λ a m. atom-length a (members-below l.chosen m)),
    ))

-- ---- a run

-- how a run ended: four letters, or a number from 31 to 33
ending-length : (ending : Ending) → Stops ending → length (ending_text ending) ≤ 4
unfolding ending_text bytes_of
ending-length done h = omega arith
ending-length more h = omega arith
ending-length (stopped number) h = let most = (h number refl).1 in omega (arith, decimal-length 1 number (omega arith))

-- the last line, where both ends have at most 16 digits and the steps at most five
last-length : (r : RunAnswer) → r.low ≤ most_w → r.high ≤ most_w → r.steps ≤ 65535 → Stops r.ending → length (last_text r) ≤ 60
unfolding last_text bytes_of
last-length r low high steps stops =
    simp length-append (omega (
      arith,
      decimal-length 15 r.low (omega arith),
      decimal-length 15 r.high (omega arith),
      decimal-length 4 r.steps (omega arith),
      ending-length r.ending stops,
    ))

module _ (b : Board) (k : Accepted b) (s : Search) (formed : Formed bench b s) (allowance : ℕ) (most : allowance ≤ 65535) where
  abbrev ran : Ran
  ran = run bench b allowance s

  abbrev answer : RunAnswer
  answer = answered b ran

  comes : ComesTo bench b (Formed bench b) s ran
  comes = run_comes bench b (Formed bench b) (λ e rest lines f. step-formed bench b k e rest lines f) allowance s formed

  -- the lines of the search that it leaves
  each_line : (l : Line) → Memᴰ l ran.search.lines → length (line_text l) ≤ 145
  unfolding finished
  each_line l m =
      let fits : T (entry_fits b (finished l)) = fits_line b ran.search comes.kept.fits l m in
      let choice = entry_choice b (finished l) fits in
      line-length l
      (omega (arith, entry-weight b (finished l) fits, weight_of-le-W b l.chosen (choice_one b l.chosen choice), k.weight))
      (choice_size b k l.chosen choice)

  answer-length : length (ran_text b answer) ≤ most_text
  unfolding ran_text bytes_of bench
  answer-length =
      simp length-append (rw search_of-stored_of (omega (
        arith,
        decimal-length 15 (W b) (omega (arith, k.weight)),
        flatten_length line_text 145 ran.search.lines each_line,
        comes.kept.room_for_lines,
        last-length answer (omega (arith, low-le-W b k ran.search comes.kept.fits, k.weight)) (omega (arith, high-le-W b ran.search, k.weight))
            (omega (arith, run-steps bench b allowance s, most)) (run_stops bench b allowance s),
      )))

  -- the text of a run of a search that is well formed has room
  pub ran-length : length (ran_text b (run_search bench (table_of b) (stored_of s) allowance)) ≤ most_text
  ran-length = rw (run_search-answers bench b k s formed allowance) answer-length

-- ---- refusals

-- document 01's numbers have two digits at most
pub refusal-few : (r : Refusal) → refusal_number r < 256
refusal-few refusal.CutOff = lit< tt
refusal-few refusal.Kind = lit< tt
refusal-few refusal.Misplaced = lit< tt
refusal-few refusal.Atom = lit< tt
refusal-few refusal.Declaration = lit< tt
refusal-few refusal.Hypothesis = lit< tt
refusal-few refusal.Weight = lit< tt
refusal-few refusal.Product = lit< tt
refusal-few refusal.Body = lit< tt
refusal-few refusal.Head = lit< tt
refusal-few refusal.Level = lit< tt
refusal-few refusal.Rules = lit< tt
refusal-few refusal.Table = lit< tt
refusal-few refusal.Length = lit< tt
refusal-few refusal.AskedAtom = lit< tt
refusal-few refusal.AskedOrder = lit< tt
refusal-few refusal.BoardState = lit< tt
refusal-few refusal.StoreFull = lit< tt
refusal-few refusal.Overlap = lit< tt
refusal-few refusal.ListFull = lit< tt
refusal-few refusal.Search = lit< tt
refusal-few refusal.Line = lit< tt

pub refused-length : (number : ℕ) → number < 256 → length (refused_text number) ≤ most_text
unfolding refused_text bytes_of
refused-length number l = simp length-append (omega (arith, decimal-length 2 number (omega arith)))

pub refused-file-length : (number place : ℕ) → number < 256 → place < 2 ^ 64 → length (refused_file_text number place) ≤ most_text
unfolding refused_file_text bytes_of
refused-file-length number place l m = simp length-append (omega (arith, decimal-length 2 number (omega arith), decimal-length 19 place (omega arith)))

-- ---- a question and an input

module _ (b : Board) (k : Accepted b) where
  -- what is printed of a question, by what opening tests
  pub opened-length : (question : List ℕ) (allowance : ℕ) → allowance ≤ 65535
      → length (opened_text bench b (open_question (table_of b) question) allowance) ≤ most_text
  unfolding open_question opened_text bench
  opened-length question allowance most =
      go (not (is_table t)) (eqb (length question) 0 || ltb most_asked (length question)) (any (leb t.atoms) question) (not (ascending question)) refl
    where
      t : Table
      t = table_of b

      s : Search
      s = opening (board_of t) question

      answer : Bool → Bool → Bool → Bool → Answer Search
      answer p q r u = cond p (refused 20) (cond q (refused 21) (cond r (refused 22) (cond u (refused 23) (granted s))))

      go : (p q r u : Bool) → open_question t question ≡ answer p q r u → length (opened_text bench b (answer p q r u) allowance) ≤ most_text
      go true q r u e = refused-length 20 (lit< tt)
      go false true r u e = refused-length 21 (lit< tt)
      go false false true u e = refused-length 22 (lit< tt)
      go false false false true e = refused-length 23 (lit< tt)
      go false false false false e =
          let below = rw (board_of-table_of k) at ((opened-question t question s e).1) in
          ran-length b k s (rw (board_of-table_of k) (opening-formed b question below bench (omega arith))) allowance most

  -- what is printed of an input
  pub asked-length : (input : List ℕ) → ((i : ℕ) → get_or input i 0 < 256) → length (asked_text bench b input) ≤ most_text
  unfolding asked_text
  asked-length [] bytes = refused-length 21 (lit< tt)
  asked-length (count ∷ input) bytes = go (ltb (length input) (count + 2))
    where
      allowance : ℕ
      allowance = get_or input count 0 + 256 * get_or input (count + 1) 0

      go : (short : Bool) → length (cond short (refused_text 21) (opened_text bench b (open_question (table_of b) (take count input)) allowance)) ≤ most_text
      go true = refused-length 21 (lit< tt)
      go false = opened-length (take count input) allowance (omega (arith, bytes (suc count), bytes (suc (count + 1))))
