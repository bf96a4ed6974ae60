-- What `firmware` means: what `board` and `search` say, with a number for each answer (Answers); and demand 3 in these numbers (Sequence).
pub mod Answers
pub mod Sequence
