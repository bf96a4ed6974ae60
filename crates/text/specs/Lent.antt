-- The listing in a lent buffer. Document 01 leaves open where the text stands; here a caller lends the room. Assumes nothing.
use Rattle.std.specs.Prelude.{ℕ, ◌≡◌, cond, List, ◌++◌, ltb, length, drop}

-- how many bytes have room for every listing: `total` with 16 digits; 256 lines, each a weight of 16 digits and 32 atoms, a blank and three digits each; and
-- the last line with ends of 16 digits, steps of five and an ending of four letters: 23 + 256 * 145 + 60
abbrev pub most_text : ℕ
most_text = 37203

-- the lent bytes after the text was put there: the text, then what was there; where they are too few for every listing they stay as they were
unfoldable pub text_in : List ℕ → List ℕ → List ℕ
text_in text before = cond (ltb (length before) most_text) before (text ++ drop (length text) before)

-- how many bytes the text has there: none where nothing was put
unfoldable pub bytes_in : List ℕ → List ℕ → ℕ
bytes_in text before = cond (ltb (length before) most_text) 0 (length text)

-- what putting a text into lent bytes leaves there and answers
pub record LentAs (text before after : List ℕ) (r : ℕ) : Type 0 where
  pub bytes : after ≡ text_in text before
  pub count : r ≡ bytes_in text before
