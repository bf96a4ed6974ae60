-- What boards, their files and their tables mean, in the order of document 01: read Sizes, Answers, Board, Holds, Accepted, File, Load, Table,
-- EntryPoints. The contracts of `board`, `files` and `holding` cite these. The lists and sets of atoms that these lean on are the crate `sets`'.
-- `Facts` has what contracts between crates cite, `Private` what only those of private functions do.
pub mod Accepted
pub mod Answers
pub mod Board
pub mod EntryPoints
pub mod Facts
pub mod File
pub mod Holds
pub mod Load
pub mod Private
pub mod Sizes
pub mod Table
