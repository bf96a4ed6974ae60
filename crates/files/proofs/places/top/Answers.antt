-- `top` meets its contract: the greatest of the filled places, each with one more, is what `top_of` gives. Assumes nothing.
use Rattle.std.proofs.Common.{◌≡◌, ℕ, ◌+◌, max, Bool, not, cond, List, [], ◌∷◌, map, eqb, unwrap_or, refl, sym, ap, ◌∙◌, arith, rules}
use Rattle.std.specs.List.{fold, reduce, filter}
use Rattle.std.proofs.lemmas.Iterator.{YieldsList-from_slice, YieldsList-from_map}
use Rattle.std.proofs.lemmas.Iterator.Consumers.{YieldsList-at, YieldsList-from_filter, max_from_yields_List}
use Rattle.std.proofs.lemmas.Iterator.Adapters.{option_map_id}
use Rattle.sets.specs.Lists.{keep}
use Rattle.board.specs.Sizes.{empty_place}
use Rattle.board.specs.Load.{filled}
use Rattle.files.specs.Private.Filled.{top_of}
use Rattle.files.proofs.places.top.Goals as goal

-- the greatest of some numbers, each with one more
highest_from : (m : ℕ) (ps : List ℕ) → fold max m (map (λ p. p + 1) ps) ≡ max m (top_of ps)
unfolding top_of
highest_from m [] = omega arith
highest_from m (p ∷ ps) = omega (arith, highest_from (max m (p + 1)) ps)

highest : (ps : List ℕ) → unwrap_or (reduce max (map (λ p. p + 1) ps)) 0 ≡ top_of ps
unfolding top_of
highest [] = refl
highest (p ∷ ps) = omega (arith, highest_from (p + 1) ps)

-- std's `filter` of a test is `keep`
filter_keep : (test : ℕ → Bool) (ps : List ℕ) → filter test ps ≡ keep test ps
unfolding keep
filter_keep test [] = refl
filter_keep test (p ∷ ps) = ap (λ qs. cond (test p) (p ∷ qs) qs) (filter_keep test ps)

pub returns : goal.returns
unfolding filled
returns c =
    let places = c.args.places.now in
    let test : ℕ → Bool = λ p. not (eqb p empty_place) in
    let found : c.max.result ≡ reduce max (map (λ (p : ℕ). p + 1) (filter test places)) =
    sym (option_map_id _)
    ∙ max_from_yields_List _ _ c.max.ensures.ran
    (YieldsList-from_map _ (λ p. p + 1) (YieldsList-at c.map.ensures.source
    (YieldsList-from_filter _ test (YieldsList-at c.filter.ensures.source (YieldsList-from_slice places c.iter.ensures.rest))
    c.filter.ensures.closure (λ x b q k. search rules)))
    c.map.ensures.closure (λ x r q k. search rules)) in
    c.unwrap_or.ensures ∙ ap (λ o. unwrap_or o 0) found ∙ highest (filter test places) ∙ ap top_of (filter_keep test places)
