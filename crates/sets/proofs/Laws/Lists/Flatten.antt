-- Laws of pieces one after another, `flatten (map f xs)`: how long they are, the piece at an index, one piece more, and the pieces of two lists. Assumes nothing.
use mathlib.Core.Path.{◌≡◌, refl, sym, ap, ◌∙◌}
use Prim.Native.Nat.{ℕ, zero, suc, ◌+◌, ◌*◌, ◌≤◌, ◌<◌}
use native.Mathlib.Nat.{mul-suc, mul-zero, suc-mul}
use native.Mathlib.Omega.{arith}
use mathlib.Core.List.{List, [], ◌∷◌, ◌++◌, map, flatten, append_assoc, append-nil, Memᴰ}
use lib.ListN.{length, get_or, take, drop, length-append}
use lib.Seq.{take_at, drop-append-add}

module _ {ℓ κ} {A : Type ℓ} {B : Type κ} where
  -- the pieces of two lists
  pub flatten_map_append : (f : A → List B) (xs ys : List A) → flatten (map f (xs ++ ys)) ≡ flatten (map f xs) ++ flatten (map f ys)
  unfolding flatten
  flatten_map_append f [] ys = refl
  flatten_map_append f (x ∷ xs) ys = ap (◌++◌ (f x)) (flatten_map_append f xs ys) ∙ sym (append_assoc (f x) (flatten (map f xs)) (flatten (map f ys)))

  -- the pieces of one element more
  pub flatten_map_snoc : (f : A → List B) (xs : List A) (x : A) → flatten (map f (xs ++ (x ∷ []))) ≡ flatten (map f xs) ++ f x
  unfolding flatten
  flatten_map_snoc f xs x = flatten_map_append f xs (x ∷ []) ∙ ap (◌++◌ (flatten (map f xs))) (append-nil (f x))

  -- as many pieces of one element at least have as many elements at least
  pub length-le_flatten : (f : A → List B) → ((x : A) → 0 < length (f x)) → (xs : List A) → length xs ≤ length (flatten (map f xs))
  unfolding flatten
  length-le_flatten f h [] = omega arith
  length-le_flatten f h (x ∷ xs) = rw length-append (omega (arith, h x, length-le_flatten f h xs))

  -- pieces of k elements at most
  pub flatten_length : (f : A → List B) (k : ℕ) (xs : List A) → ((x : A) → Memᴰ x xs → length (f x) ≤ k) → length (flatten (map f xs)) ≤ length xs * k
  unfolding flatten
  flatten_length f k [] h = omega arith
  flatten_length f k (x ∷ xs) h =
      omega (
        arith,
        length-append (f x) (flatten (map f xs)),
        h x (Memᴰ.head refl),
        flatten_length f k xs (λ y m. h y (Memᴰ.tail m)),
        suc-mul (length xs) k,
      )

  -- piece i of pieces of k elements
  pub take-drop_flatten : (k : ℕ) (f : A → List B) (d : A) (xs : List A) (rest : List B)
      → ((i : ℕ) → i < length xs → length (f (get_or xs i d)) ≡ k)
      → (i : ℕ) → i < length xs → take k (drop (k * i) (flatten (map f xs) ++ rest)) ≡ f (get_or xs i d)
  unfolding flatten
  take-drop_flatten k f d [] rest e i h = absurd (omega arith)
  take-drop_flatten k f d (x ∷ xs) rest e zero h = rw (mul-zero, append_assoc) (take_at (f x) (flatten (map f xs) ++ rest) k (e 0 (omega arith)))
  take-drop_flatten k f d (x ∷ xs) rest e (suc i) h =
      let l : length (f x) ≡ k = e 0 (omega arith) in
      let n : k * suc i ≡ length (f x) + k * i = mul-suc k i ∙ omega arith in
      rw (n, append_assoc, drop-append-add) (take-drop_flatten k f d xs rest (λ j m. e (suc j) (omega arith)) i (omega arith))
