-- Every loaded board passes. Assumes nothing.
use Prim.Native.Nat.{ℕ, zero, suc, ◌+◌, ◌≤◌, ◌<◌}
use native.Mathlib.Omega.{arith}
use mathlib.Core.Path.{◌≡◌, refl, sym, ap, ◌∙◌}
use mathlib.Core.Logic.{◌⊎◌, inl, inr}
use mathlib.Core.Bool.{Bool, true, false, cond, true≢false, false≢true}
use mathlib.Core.List.{List, []}
use lib.ListN.{length, get_or, length-take, length-drop}
use lib.Dec.{T, ltb}
use lib.Pow.{are_bytes}
use Rattle.board.specs.Sizes.{most_atoms}
use Rattle.board.specs.Answers.{FileAnswer, accepted, refused_at}
use Rattle.board.specs.Board.{Board}
use Rattle.board.specs.File.{Record, Found, count, hypothesis, rule, finish, body_bytes, known_kind, record_of, next_place, read_record}
use Rattle.board.proofs.Laws.File.{unknown_high}
use Rattle.board.proofs.Laws.File.Bytes.{three_bytes-lt}
use Rattle.board.specs.Load.{no_board, misplaced, misplaced_at, first_failing, field_checks, taking, is_finish, at_the_end, load_from, load}
use Rattle.board.proofs.Laws.Load.Checks.{count-checked}
use Rattle.board.proofs.Laws.Load.{so_far-atoms, so_far-hypotheses, so_far-rules, so_far-count, so_far-hypothesis, so_far-rule}
use Rattle.board.proofs.Laws.Load.Reading.{Read, read-accepted, not-misplaced, placed-count, placed-other, placed-hypothesis}
use Rattle.board.proofs.Laws.Load.Steps.{load-misplaced, load_unread, load_failing, load-finish, load-next}
use Rattle.board.specs.Private.Passes.{each_passes, hypotheses_pass}
use Rattle.board.proofs.Laws.Load.Passes.{rules_pass, so_far, BoardPasses}

-- nothing is read yet, or the count and maybe more
abbrev pub Begun : Board → Type 0
Begun b = (b ≡ no_board) ⊎ T (so_far b)

-- a board with atoms has had its count
begun_counted : (b : Board) → Begun b → (b.atoms ≡ 0 → ⊥) → T (so_far b)
unfolding no_board
begun_counted b (inl e) f = absurd (f (ap (λ (x : Board). x.atoms) e))
begun_counted b (inr h) f = h

-- one without has not
begun_empty : (b : Board) → Begun b → b.atoms ≡ 0 → b ≡ no_board
begun_empty b (inl e) z = e
begun_empty b (inr h) z = absurd (omega (arith, (count-checked no_board b.atoms (so_far-atoms b h)).0))

-- no kind is above 4
too_high : (kind : ℕ) → known_kind kind ≡ true → 4 < kind → ⊥
too_high kind k l = true≢false (sym k ∙ unknown_high kind l)

-- a record that is read, placed and checked leaves the board one read so far
taken : (file : List ℕ) → T (are_bytes file) → (at : ℕ) (b : Board) → Begun b → (kind : ℕ) → known_kind kind ≡ true → misplaced b kind ≡ false
    → next_place kind at ≤ length file → first_failing (field_checks b (record_of kind file (at + 1))) ≡ 0 → T (so_far (taking b (record_of kind file (at + 1))))
unfolding record_of known_kind next_place body_bytes taking
taken file bytes at b g zero k m l c = absurd (false≢true k)
taken file bytes at b g (suc zero) k m l c = rw (begun_empty b g (placed-count b m)) (so_far-count _ (rw (begun_empty b g (placed-count b m)) at c))
taken file bytes at b g (suc (suc zero)) k m l c =
    so_far-hypothesis b _ _ _ (begun_counted b g (placed-other b 2 refl m)) (placed-hypothesis b m) c (three_bytes-lt file bytes (at + 1 + 2))
taken file bytes at b g (suc (suc (suc zero))) k m l c =
    so_far-rule b _ _ (begun_counted b g (placed-other b 3 refl m)) (simp (length-take, length-drop) (omega arith)) c
taken file bytes at b g (suc (suc (suc (suc zero)))) k m l c = begun_counted b g (placed-other b 4 refl m)
taken file bytes at b g (suc (suc (suc (suc (suc n))))) k m l c = absurd (too_high (suc (suc (suc (suc (suc n))))) k (omega arith))

-- the same of the record as it is read
pub taken_in : (file : List ℕ) → T (are_bytes file) → (at : ℕ) (b : Board) → Begun b → misplaced_at file at b ≡ false → (r : Found) → read_record file at ≡ accepted r
    → first_failing (field_checks b r.found) ≡ 0 → T (so_far (taking b r.found))
taken_in file bytes at b g m r e c = from (read-accepted file at r e)
  where
    from : Read file at r → T (so_far (taking b r.found))
    from d =
        let same : r.found ≡ record_of (get_or file at 0) file (at + 1) = ap (λ (x : Found). x.found) d.same in
        rw same (taken file bytes at b g (get_or file at 0) d.known (not-misplaced file at b m d.there d.known) d.whole (rw same at c))

-- what is accepted at the end is the board
end_same : (file : List ℕ) (next : ℕ) (b c : Board) → at_the_end file next b ≡ accepted c → b ≡ c
unfolding at_the_end
end_same file next b c e = go (ltb next (length file)) e
  where
    go : (t : Bool) → cond t (refused_at 3 next) (accepted b) ≡ accepted c → b ≡ c
    go true q = absurd (let z : ◌≡◌ {A = ℕ} 0 1 = cc in omega arith)
    go false q = cc

-- a refusal accepts nothing
refused_never : (number place : ℕ) (b : Board) → refused_at number place ≡ accepted b → ⊥
refused_never number place b q = let z : ◌≡◌ {A = ℕ} 0 1 = cc in omega arith

-- after the end record the board passes
ended : (b : Board) (r : Record) → is_finish r ≡ true → T (so_far (taking b r)) → first_failing (field_checks b r) ≡ 0 → BoardPasses b
unfolding is_finish taking
ended b (count n) e h c = absurd (false≢true e)
ended b (hypothesis d a w) e h c = absurd (false≢true e)
ended b (rule p places) e h c = absurd (false≢true e)
ended b finish e h c = record { read = h; finished = c }

-- a board that is accepted from some place on passes
pub load_from-passes : (n : ℕ) (file : List ℕ) → T (are_bytes file) → (at : ℕ) (b : Board) → Begun b → (c : Board) → load_from n file at b ≡ accepted c → BoardPasses c
unfolding load_from
load_from-passes zero file bytes at b g c e = absurd (refused_never 1 (length file) c e)
load_from-passes (suc n) file bytes at b g c e = placed (misplaced_at file at b) refl (load_from-passes n file bytes)
  where
    checked : (r : Found) → misplaced_at file at b ≡ false → read_record file at ≡ accepted r → (f : ℕ) → first_failing (field_checks b r.found) ≡ f
        → (t : Bool) → is_finish r.found ≡ t
        → ((at : ℕ) (b : Board) → Begun b → (c : Board) → load_from n file at b ≡ accepted c → BoardPasses c) → BoardPasses c
    checked r m k (suc f) q t i ih = absurd (refused_never _ _ c (sym (load_failing n file at b r m k f q) ∙ e))
    checked r m k zero q false i ih =
        ih r.next (taking b r.found) (inr (taken_in file bytes at b g m r k q)) c (sym (load-next n file at b r m k q i) ∙ e)
    checked r m k zero q true i ih =
        rw (← end_same file r.next b c (sym (load-finish n file at b r m k q i) ∙ e)) (ended b r.found i (taken_in file bytes at b g m r k q) q)

    read : misplaced_at file at b ≡ false → (x : FileAnswer Found) → read_record file at ≡ x
        → ((at : ℕ) (b : Board) → Begun b → (c : Board) → load_from n file at b ≡ accepted c → BoardPasses c) → BoardPasses c
    read m (refused_at number place) k ih = absurd (refused_never _ _ c (sym (load_unread n file at b number place m k) ∙ e))
    read m (accepted r) k ih = checked r m k (first_failing (field_checks b r.found)) refl (is_finish r.found) refl ih

    placed : (t : Bool) → misplaced_at file at b ≡ t
        → ((at : ℕ) (b : Board) → Begun b → (c : Board) → load_from n file at b ≡ accepted c → BoardPasses c) → BoardPasses c
    placed true m ih = absurd (refused_never _ _ c (sym (load-misplaced n file at b m) ∙ e))
    placed false m ih = read m (read_record file at) refl ih

-- every loaded board passes
pub loaded-passes : (file : List ℕ) → T (are_bytes file) → (b : Board) → load file ≡ accepted b → BoardPasses b
unfolding load
loaded-passes file bytes b e = load_from-passes (suc (length file)) file bytes 0 no_board (inl refl) b e

-- ---- a board read so far

-- the hypotheses read so far pass
pub begun_hypotheses : (b : Board) → Begun b → T (hypotheses_pass b.atoms [] b.hypotheses)
unfolding no_board each_passes
begun_hypotheses b (inl e) = rw e tt
begun_hypotheses b (inr s) = so_far-hypotheses b s

-- and so do the rules
pub begun_rules : (b : Board) → Begun b → T (rules_pass b.atoms b.hypotheses [] b.rules)
unfolding no_board each_passes
begun_rules b (inl e) = rw e tt
begun_rules b (inr s) = so_far-rules b s

-- there are no more atoms than a board may have
pub begun_atoms : (b : Board) → Begun b → b.atoms ≤ most_atoms
unfolding no_board
begun_atoms b (inl e) = rw e (omega arith)
begun_atoms b (inr s) = (count-checked no_board b.atoms (so_far-atoms b s)).1
