-- What makes a function into `Ordering` a comparison: it turns round with its arguments, what it calls equal is interchangeable for it, and it is transitive.
-- Comparing numbers is one; so are one turned round, one by a key, one after another (`and_then`) and the dictionary order. Assumes nothing.
use Prim.Native.Nat.compare
use Prim.Native.Nat.{ℕ, zero, suc, ◌<◌, compare, Ordering}
use native.Mathlib.Omega.{arith}
use mathlib.Core.Path.{◌≡◌, refl, sym, ap, ap₂, ◌∙◌}
use mathlib.Core.List.{List, [], ◌∷◌}
use Rattle.sets.specs.Dictionary.{and_then, dictionary}
use Rattle.sets.proofs.Laws.Dictionary.{compare_less, compare_eq, dictionary-eq}

-- the comparison of the same two the other way round
unfoldable pub turned : Ordering → Ordering
turned Ordering.lt = Ordering.gt
turned Ordering.eq = Ordering.eq
turned Ordering.gt = Ordering.lt

pub record Comparison {A : Type 0} (c : A → A → Ordering) : Type 0 where
  -- what goes before comes after the other way round
  pub turns : (x y : A) → c y x ≡ turned (c x y)
  -- of two that it calls equal, one is as good as the other
  pub same : (x y z : A) → c x y ≡ Ordering.eq → c x z ≡ c y z
  -- it is transitive
  pub goes : (x y z : A) → c x y ≡ Ordering.lt → c y z ≡ Ordering.lt → c x z ≡ Ordering.lt

-- no answer of a comparison is another
pub lt-not-eq : Ordering.lt ≡ Ordering.eq → ⊥
lt-not-eq e = let z : ◌≡◌ {A = ℕ} 0 1 = cc in omega arith

pub lt-not_gt : Ordering.lt ≡ Ordering.gt → ⊥
lt-not_gt e = let z : ◌≡◌ {A = ℕ} 0 1 = cc in omega arith

pub eq-not_gt : Ordering.eq ≡ Ordering.gt → ⊥
eq-not_gt e = let z : ◌≡◌ {A = ℕ} 0 1 = cc in omega arith

-- only equal is its own turning
turned-own : (o : Ordering) → o ≡ turned o → o ≡ Ordering.eq
unfolding turned
turned-own Ordering.lt e = absurd (lt-not_gt e)
turned-own Ordering.eq e = refl
turned-own Ordering.gt e = absurd (lt-not_gt (sym e))

module _ {A : Type 0} (c : A → A → Ordering) (k : Comparison c) where
  -- each is equal to itself
  pub comparison_self : (x : A) → c x x ≡ Ordering.eq
  comparison_self x = turned-own (c x x) (k.turns x x)

  -- interchangeable on the right too
  pub comparison_right : (x y z : A) → c y z ≡ Ordering.eq → c x y ≡ c x z
  comparison_right x y z e = k.turns y x ∙ ap turned (k.same y z x e) ∙ sym (k.turns z x)

  -- what comes after goes before the other way round
  pub comparison_after : (x y : A) → c x y ≡ Ordering.gt → c y x ≡ Ordering.lt
  unfolding turned
  comparison_after x y e = k.turns x y ∙ ap turned e

  -- a comparison turned round is one
  pub comparison_turned : Comparison (λ x y. c y x)
  unfolding turned
  comparison_turned =
      record {
        turns = λ x y. k.turns y x;
        same = λ x y z e. comparison_right z x y (k.turns y x ∙ ap turned e);
        goes = λ x y z e f. k.goes z y x f e;
      }

  -- by a key
  pub comparison_by : {B : Type 0} (key : B → A) → Comparison (λ x y. c (key x) (key y))
  comparison_by key =
      record {
        turns = λ x y. k.turns (key x) (key y);
        same = λ x y z. k.same (key x) (key y) (key z);
        goes = λ x y z. k.goes (key x) (key y) (key z);
      }

-- turning round the one and then the other
turned_then : (o p : Ordering) → turned (and_then o p) ≡ and_then (turned o) (turned p)
unfolding turned and_then
turned_then Ordering.lt p = refl
turned_then Ordering.eq p = refl
turned_then Ordering.gt p = refl

-- where the one and then the other say equal, both do
pub then_eq : (o p : Ordering) → and_then o p ≡ Ordering.eq → (o ≡ Ordering.eq) × (p ≡ Ordering.eq)
unfolding and_then
then_eq Ordering.lt p e = absurd (lt-not-eq e)
then_eq Ordering.eq p e = (refl, e)
then_eq Ordering.gt p e = absurd (eq-not_gt (sym e))

-- a comparison and then another one that is transitive at three places is so there
then_goes : {A : Type 0} (c : A → A → Ordering) → Comparison c → (x y z : A) (xy yz xz : Ordering)
    → (xy ≡ Ordering.lt → yz ≡ Ordering.lt → xz ≡ Ordering.lt)
    → and_then (c x y) xy ≡ Ordering.lt → and_then (c y z) yz ≡ Ordering.lt → and_then (c x z) xz ≡ Ordering.lt
unfolding and_then
then_goes c k x y z xy yz xz later e f = go (c x y) refl (c y z) refl e f
  where
    go : (o : Ordering) → c x y ≡ o → (p : Ordering) → c y z ≡ p → and_then o xy ≡ Ordering.lt → and_then p yz ≡ Ordering.lt → and_then (c x z) xz ≡ Ordering.lt
    go Ordering.lt q Ordering.lt r e f = rw (k.goes x y z q r)
    go Ordering.lt q Ordering.eq r e f = rw (sym (comparison_right c k x y z r) ∙ q)
    go Ordering.lt q Ordering.gt r e f = absurd (lt-not_gt (sym f))
    go Ordering.eq q Ordering.lt r e f = rw (k.same x y z q ∙ r)
    go Ordering.eq q Ordering.eq r e f = rw (k.same x y z q ∙ r) (later e f)
    go Ordering.eq q Ordering.gt r e f = absurd (lt-not_gt (sym f))
    go Ordering.gt q p r e f = absurd (lt-not_gt (sym e))

-- one comparison and then another is one
pub comparison_then : {A : Type 0} (c d : A → A → Ordering) → Comparison c → Comparison d → Comparison (λ x y. and_then (c x y) (d x y))
comparison_then c d k l =
    record {
      turns = λ x y. ap₂ and_then (k.turns x y) (l.turns x y) ∙ sym (turned_then (c x y) (d x y));
      same = λ x y z e. let (f, g) = then_eq (c x y) (d x y) e in ap₂ and_then (k.same x y z f) (l.same x y z g);
      goes = λ x y z. then_goes c k x y z (d x y) (d y z) (d x z) (l.goes x y z);
    }

-- ---- numbers

-- the lesser is less
compare_lt : (m n : ℕ) → compare m n ≡ Ordering.lt → m < n
compare_lt zero zero e = absurd (lt-not-eq (sym e ∙ compare.zero-zero))
compare_lt zero (suc n) e = omega arith
compare_lt (suc m) zero e = absurd (lt-not_gt (sym e ∙ compare.suc-zero m))
compare_lt (suc m) (suc n) e = omega (arith, compare_lt m n (sym (compare.suc-suc m n) ∙ e))

-- turned round
compare_turns : (m n : ℕ) → compare n m ≡ turned (compare m n)
unfolding turned
compare_turns zero zero = rw compare.zero-zero
compare_turns zero (suc n) = rw (compare.zero-suc n, compare.suc-zero n)
compare_turns (suc m) zero = rw (compare.zero-suc m, compare.suc-zero m)
compare_turns (suc m) (suc n) = rw (compare.suc-suc m n, compare.suc-suc n m) (compare_turns m n)

-- comparing numbers is one
pub comparison_numbers : Comparison compare
comparison_numbers =
    record {
      turns = compare_turns;
      same = λ x y z e. ap (λ (m : ℕ). compare m z) (compare_eq x y e);
      goes = λ x y z e f. compare_less x z (omega (arith, compare_lt x y e, compare_lt y z f));
    }

-- ---- the dictionary order

-- turned round
dictionary_turns : (xs ys : List ℕ) → dictionary ys xs ≡ turned (dictionary xs ys)
unfolding dictionary turned
dictionary_turns [] [] = refl
dictionary_turns [] (y ∷ ys) = refl
dictionary_turns (x ∷ xs) [] = refl
dictionary_turns (x ∷ xs) (y ∷ ys) =
    ap₂ and_then (compare_turns x y) (dictionary_turns xs ys) ∙ sym (turned_then (compare x y) (dictionary xs ys))

-- transitive
dictionary-goes : (xs ys zs : List ℕ) → dictionary xs ys ≡ Ordering.lt → dictionary ys zs ≡ Ordering.lt → dictionary xs zs ≡ Ordering.lt
unfolding dictionary
dictionary-goes [] [] zs e f = f
dictionary-goes [] (y ∷ ys) [] e f = absurd (lt-not_gt (sym f))
dictionary-goes [] (y ∷ ys) (z ∷ zs) e f = refl
dictionary-goes (x ∷ xs) [] zs e f = absurd (lt-not_gt (sym e))
dictionary-goes (x ∷ xs) (y ∷ ys) [] e f = absurd (lt-not_gt (sym f))
dictionary-goes (x ∷ xs) (y ∷ ys) (z ∷ zs) e f =
    then_goes compare comparison_numbers x y z (dictionary xs ys) (dictionary ys zs) (dictionary xs zs) (dictionary-goes xs ys zs) e f

-- the dictionary order is one
pub comparison_dictionary : Comparison dictionary
comparison_dictionary =
    record {
      turns = dictionary_turns;
      same = λ xs ys zs e. ap (λ (us : List ℕ). dictionary us zs) (dictionary-eq xs ys e);
      goes = dictionary-goes;
    }
