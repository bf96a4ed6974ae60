-- Pieces put one after another, a byte, and nothing. Assumes nothing.
use native.Mathlib.Numerals.{add-one}
use native.Mathlib.Omega.{arith}
use Prim.Native.Nat.{ℕ, ◌+◌, ◌<◌}
use mathlib.Core.Path.{refl, sym, ap, ◌∙◌}
use mathlib.Core.List.{List, [], ◌∷◌, ◌++◌, append_assoc, append-nil}
use lib.ListN.{length, length-append, length-set, take, set}
use lib.Seq.{take-suc-set, drop-set-lt}
use Rattle.text.specs.declared.put.Writer.{Writer}
use Rattle.text.specs.Private.Putting.{HasRoom, Puts}

-- two pieces put one after the other
pub put_both : {before : Writer} {xs : List ℕ} {mid : Writer} {ys : List ℕ} {after : Writer} → Puts before xs mid → Puts mid ys after → Puts before (xs ++ ys) after
put_both {before} {xs} {ys = ys} p s =
    record {
      lent = s.lent ∙ p.lent;
      next = omega (arith, length-append xs ys);
      front = s.front ∙ ap (λ (head : List ℕ). head ++ ys) p.front ∙ append_assoc (take before.at before.text.now) xs ys;
      behind = λ n l. s.behind n l ∙ p.behind n (omega arith);
      same = s.same ∙ p.same;
    }

-- what the check needs where pieces are put one after another: that, and how long they are together
pub ruleset pieces = (put_both, length-append)

-- nothing put
pub put-none : {writer : Writer} → Puts writer [] writer
put-none {writer} =
    record { lent = refl; next = omega arith; front = sym (append-nil (take writer.at writer.text.now)); behind = λ n l. refl; same = refl }

-- a byte stored
pub put_byte : {writer : Writer} {x : ℕ} → HasRoom writer (x ∷ [])
    → Puts writer (x ∷ []) (record { text = record writer.text { now = set writer.text.now writer.at x }; at = writer.at + 1 })
put_byte {writer} {x} room =
    let l : writer.at < length writer.text.now = omega arith in
    record {
      lent = refl;
      next = refl;
      front = rw (add-one, take-suc-set);
      behind = λ n m. drop-set-lt n writer.text.now writer.at x (omega arith);
      same = length-set writer.text.now writer.at x;
    }
