-- The first bytes of a file and of an input decide what is printed. Assumes nothing.
use Prim.Native.Nat.{ℕ, ◌≤◌, ◌+◌, ◌-◌, ◌*◌, ◌<◌}
use native.Mathlib.Omega.{arith}
use mathlib.Core.Path.{◌≡◌, refl, sym, ◌∙◌}
use mathlib.Core.Bool.{Bool, true, false, cond}
use mathlib.Core.List.{List, [], ◌∷◌}
use lib.Dec.{T, ltb}
use lib.ListN.{length, length-take, get_or, take}
use lib.Pow.{are_bytes}
use lib.Seq.{length-take-le, take-take, get_or-take}
use borrow.Author.Tests.{ltb-true, ltb-false, lt-ltb, ne_eqb}
use Rattle.sets.proofs.Laws.Tests.{ltb_ext, true_of_T}
use Rattle.board.specs.Answers.{refused, FileAnswer, accepted, refused_at}
use Rattle.board.specs.Board.{Board}
use Rattle.board.specs.Load.{load}
use Rattle.board.specs.Table.{table_of, is_table}
use Rattle.board.proofs.Promise.{Accepted, load-take, accepted-is_table, accepted_iff}
use Rattle.search.specs.Search.{bench}
use Rattle.search.specs.EntryPoints.{most_asked, open_question}
use Rattle.search.specs.Listing.{refused_text, opened_text, asked_text, opened, loaded_text, listing, listing_at}
use Rattle.text.specs.Deciding.{file_bytes, input_bytes, Decided}

-- a question of more than eight atoms is refused with 21
asked_many : (b : Board) → Accepted b → (question : List ℕ) → most_asked < length question → open_question (table_of b) question ≡ refused 21
unfolding open_question
asked_many b k question l =
    rw (
      true_of_T (is_table (table_of b)) (accepted-is_table k (table_of b) refl),
      ne_eqb (length question) 0 (λ e. omega (arith, l)),
      lt-ltb most_asked (length question) l,
    )

module _ (b : Board) (k : Accepted b) (count : ℕ) where
  -- what is printed of an input that begins with the count, by what follows and whether that is too short
  abbrev text : List ℕ → Bool → List ℕ
  text input short = cond short (refused_text 21) (opened_text bench b (open_question (table_of b) (take count input)) (get_or input count 0 + 256 * get_or input (count + 1) 0))

  -- a count of more than eight is refused with 21
  text_many : most_asked < count → (input : List ℕ) (short : Bool) → ltb (length input) (count + 2) ≡ short → text input short ≡ refused_text 21
  unfolding opened_text
  text_many l input true e = refl
  text_many l input false e =
      let enough = ltb-false (length input) (count + 2) e in
      rw (asked_many b k (take count input) (omega (arith, length-take-le count input (omega arith))))

  -- what follows decides by its first ten bytes
  text-take : (n : ℕ) → most_asked + 2 ≤ n → (input : List ℕ)
      → text (take n input) (ltb (length (take n input)) (count + 2)) ≡ text input (ltb (length input) (count + 2))
  text-take n enough input = go (ltb most_asked count) refl
    where
      go : (t : Bool) → ltb most_asked count ≡ t → text (take n input) (ltb (length (take n input)) (count + 2)) ≡ text input (ltb (length input) (count + 2))
      go true e =
          let l = ltb-true most_asked count e in
          text_many l (take n input) (ltb (length (take n input)) (count + 2)) refl ∙ sym (text_many l input (ltb (length input) (count + 2)) refl)
      go false e =
          let l = ltb-false most_asked count e in
          rw (
            ltb_ext (length (take n input)) (count + 2) (length input) (count + 2) (λ m. omega (arith, length-take n input)) (λ m. omega (arith, length-take n input)),
            take-take count n input (omega arith),
            get_or-take n input count 0 (omega arith),
            get_or-take n input (count + 1) 0 (omega arith),
          )

-- an input
asked-take : (b : Board) → Accepted b → (input : List ℕ) → asked_text bench b (take input_bytes input) ≡ asked_text bench b input
unfolding asked_text
asked-take b k [] = refl
asked-take b k (count ∷ input) = text-take b k count (input_bytes - 1) (omega arith) input

-- a file
loaded-take : (file : List ℕ) → T (are_bytes file) → (a : FileAnswer Board) → load file ≡ a → (input : List ℕ)
    → loaded_text bench a (take input_bytes input) ≡ loaded_text bench a input
unfolding loaded_text
loaded-take file h (accepted b) e input = asked-take b ((accepted_iff b).1 (file, h, e)) input
loaded-take file h (refused_at number place) e input = refl

-- both
pub listing_decided : Decided
unfolding listing listing_at opened
listing_decided file input h = rw (load-take file_bytes (omega arith) file) (loaded-take file h (load file) refl input)
