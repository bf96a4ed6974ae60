-- The sizes of document 01, "Board tables and board states": "A table has 1 to 128 atoms, numbered from 0; 0 to 32 declarations, numbered
-- from 0, each of 1 to 16 hypotheses with whole weights 1 to 16,777,215; and 0 to 256 rules, each with a head and 0 to 8 body atoms."
-- Assumes nothing.
use Rattle.std.specs.Prelude.{ℕ}
pub use Rattle.sets.specs.Sets.{most_atoms}

-- "0 to 32 declarations"
abbrev pub most_declarations : ℕ
most_declarations = 32

-- "each of 1 to 16 hypotheses": the most of one declaration
abbrev pub most_hypotheses : ℕ
most_hypotheses = 16

-- "whole weights 1 to 16,777,215"
abbrev pub most_weight : ℕ
most_weight = 16_777_215

-- "0 to 256 rules"
abbrev pub most_rules : ℕ
most_rules = 256

-- "0 to 8 body atoms": the most of one rule, which is the number of body places of a rule's record
abbrev pub most_body : ℕ
most_body = 8

-- "W is .. at most 1,000,000,000,000,000"
abbrev pub most_w : ℕ
most_w = 1_000_000_000_000_000

-- "255 is an empty place"
abbrev pub empty_place : ℕ
empty_place = 255
