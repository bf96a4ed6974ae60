-- Laws of tests: what it is for a test to pass, of the tests' `&&` and `||`, and of `eqb`. `T b` says that b passes. Assumes nothing.
use mathlib.Core.Path.{◌≡◌, refl, sym, ap, ◌∙◌, subst}
use Prim.Native.Nat.{ℕ, ◌<◌}
use mathlib.Core.Bool.{Bool, true, false, ◌&&◌, ◌||◌, true≢false}
use mathlib.Core.Logic.{◌⊎◌, inl, inr}
use lib.Dec.{T, eqb, eqb→eq, ltb, ltb→lt, lt→ltb}
use borrow.Author.Tests.{eq-eqb}

-- ---- one test

-- a test that is true passes
pub T_of_true : {a : Bool} → a ≡ true → T a
T_of_true e = subst T (sym e) tt

-- a test that passes is true
pub true_of_T : (a : Bool) → T a → a ≡ true
true_of_T true h = refl
true_of_T false h = absurd h

-- a test that cannot pass is false
pub false_of_T : (a : Bool) → (T a → ⊥) → a ≡ false
false_of_T true h = absurd (h tt)
false_of_T false h = refl

-- two tests that pass together are the same
pub T_ext : (a b : Bool) → (T a → T b) → (T b → T a) → a ≡ b
T_ext true b f g = sym (true_of_T b (f tt))
T_ext false b f g = sym (false_of_T b g)

-- tests for equality of numbers that are equal together are the same
pub eqb_ext : (a b c d : ℕ) → (a ≡ b → c ≡ d) → (c ≡ d → a ≡ b) → eqb a b ≡ eqb c d
eqb_ext a b c d f g = T_ext (eqb a b) (eqb c d) (λ h. T_of_true (eq-eqb c d (f (eqb→eq a b h)))) (λ h. T_of_true (eq-eqb a b (g (eqb→eq c d h))))

-- tests for order of numbers that are so ordered together are the same
pub ltb_ext : (a b c d : ℕ) → (a < b → c < d) → (c < d → a < b) → ltb a b ≡ ltb c d
ltb_ext a b c d f g = T_ext (ltb a b) (ltb c d) (λ h. lt→ltb c d (f (ltb→lt a b h))) (λ h. lt→ltb a b (g (ltb→lt c d h)))

-- ---- tests that all pass

-- two tests that pass, pass as one
pub and_both : (a b : Bool) → T a → T b → T (a && b)
and_both true b h k = k
and_both false b h k = h

-- the first of two tests passes
pub and_left : (a b : Bool) → T (a && b) → T a
and_left true b h = tt
and_left false b h = h

-- the second of two tests passes
pub and_right : (a b : Bool) → T (a && b) → T b
and_right true b h = h
and_right false b h = absurd h

-- the second test matters only where the first passes
pub and_cong_right : (a : Bool) {b c : Bool} → (T a → b ≡ c) → (a && b) ≡ (a && c)
and_cong_right true h = h tt
and_cong_right false h = refl

-- what code makes of `p && q`: where the first test passes, it is the second ..
pub and_then : {p q f : Bool} → p ≡ true → f ≡ q → f ≡ (p && q)
and_then {q = q} e h = h ∙ sym (ap (λ (p : Bool). p && q) e)

-- .. and else the first
pub and_else : {p f : Bool} (q : Bool) → p ≡ false → f ≡ p → f ≡ (p && q)
and_else q e h = h ∙ e ∙ sym (ap (λ (p : Bool). p && q) e)

-- the order of two tests before a third does not matter
pub and_swap : (a b c : Bool) → (a && (b && c)) ≡ (b && (a && c))
and_swap true b c = refl
and_swap false true c = refl
and_swap false false c = refl

-- where two tests pass, so do two weaker ones
pub and_mono : (a b c d : Bool) → (T a → T c) → (T b → T d) → T (a && b) → T (c && d)
and_mono true b c d f g h = and_both c d (f tt) (g h)
and_mono false b c d f g h = absurd h

-- four tests that pass, joined
pub and_four : (p q r s : Bool) → T p × T q × T r × T s → T (p && q && r && s)
and_four p q r s h = and_both (p && q && r) s (and_both (p && q) r (and_both p q h.0 h.1) h.2) h.3

-- four tests joined that pass, each by itself
pub four_and : (p q r s : Bool) → T (p && q && r && s) → T p × T q × T r × T s
four_and p q r s h =
    let l = and_left (p && q && r) s h in
    let k = and_left (p && q) r l in
    (and_left p q k, and_right p q k, and_right (p && q) r l, and_right (p && q && r) s h)

-- five tests that pass, joined
pub and_five : (p q r s t : Bool) → T p × T q × T r × T s × T t → T (p && q && r && s && t)
and_five p q r s t h = and_both (p && q && r && s) t (and_four p q r s (h.0, h.1, h.2, h.3)) h.4

-- five tests joined that pass, each by itself
pub five_and : (p q r s t : Bool) → T (p && q && r && s && t) → T p × T q × T r × T s × T t
five_and p q r s t h =
    let k = four_and p q r s (and_left (p && q && r && s) t h) in
    (k.0, k.1, k.2, k.3, and_right (p && q && r && s) t h)

-- ---- tests of which one passes

-- the first of two tests passes, so one does
pub or_left : (a b : Bool) → T a → T (a || b)
or_left true b h = tt
or_left false b h = absurd h

-- the second of two tests passes, so one does
pub or_right : (a b : Bool) → T b → T (a || b)
or_right true b h = tt
or_right false b h = h

-- one of two tests passes: which
pub or_cases : (a b : Bool) → T (a || b) → T a ⊎ T b
or_cases true b h = inl tt
or_cases false b h = inr h

-- where one of two tests passes, so does one of two weaker ones
pub or_mono : (a b c d : Bool) → (T a → T c) → (T b → T d) → T (a || b) → T (c || d)
or_mono true b c d f g h = or_left c d (f tt)
or_mono false b c d f g h = or_right c d (g h)

-- if neither of two tests passes, the first fails ..
pub or_false_left : (a b : Bool) → (a || b) ≡ false → a ≡ false
or_false_left true b h = h
or_false_left false b h = refl

-- .. and the second
pub or_false_right : (a b : Bool) → (a || b) ≡ false → b ≡ false
or_false_right true b h = absurd (true≢false h)
or_false_right false b h = h
