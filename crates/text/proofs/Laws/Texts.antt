-- Texts one after another: none, one more, and the room that the next takes of all; the lines of a search as such texts. Assumes nothing.
use Prim.Native.Nat.{ℕ, suc, ◌+◌, ◌-◌, ◌<◌}
use native.Mathlib.Nat.{zero-add}
use native.Mathlib.Omega.{arith}
use mathlib.Core.Path.{◌≡◌, ap, ◌∙◌}
use mathlib.Core.List.{List, [], ◌∷◌, ◌++◌, map, map-map, flatten}
use lib.ListN.{length-append}
use Rattle.sets.specs.Lists.{numbers_from, below}
use Rattle.sets.proofs.Laws.Lists.Ends.{numbers_from-append}
use Rattle.sets.proofs.Laws.Lists.Flatten.{flatten_map_append, flatten_map_snoc}
use Rattle.search.specs.Store.{search_of, line_at}
use Rattle.search.specs.declared.Search.{Search as Stored}
use Rattle.search.specs.Listing.{line_text}
use Rattle.text.specs.declared.put.Writer.{Writer}
use Rattle.text.specs.Private.Putting.{HasRoom, Puts, lines_text}
use Rattle.text.proofs.Laws.Putting.{put-none, put_both}

module _ {A : Type 0} (f : A → List ℕ) where
  -- none put
  pub texts_none : {writer : Writer} → Puts writer (flatten (map f [])) writer
  unfolding flatten
  texts_none = put-none

  module _ {before mid : Writer} (xs : List A) (x : A) (p : Puts before (flatten (map f xs)) mid) where
    -- once the texts before it are put, there is room for the next where there is room for all
    pub texts_next : (rest : List A) → HasRoom before (flatten (map f (xs ++ (x ∷ rest)))) → HasRoom mid (f x)
    unfolding flatten
    texts_next rest room = omega (arith, p.next, simp (flatten_map_append, length-append) at room)

    -- and the next, put after them
    pub texts_put : {after : Writer} → Puts mid (f x) after → Puts before (flatten (map f (xs ++ (x ∷ [])))) after
    texts_put s = rw flatten_map_snoc (put_both p s)

-- the numbers below n, at one of them
pub below-split : (i n : ℕ) → i < n → below n ≡ below i ++ (i ∷ numbers_from (suc i) (n - suc i))
unfolding below numbers_from
below-split i n l =
    let whole : n ≡ i + suc (n - suc i) = omega arith in
    ap (numbers_from 0) whole ∙ numbers_from-append 0 i (suc (n - suc i)) ∙ rw zero-add

-- the lines of a search
pub lines_texts : (s : Stored) → flatten (map line_text (search_of s).lines) ≡ lines_text s.line s.lines
unfolding search_of
lines_texts s = ap flatten (map-map line_text (line_at s) (below s.lines))
