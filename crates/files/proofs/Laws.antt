-- Laws that the proofs of this crate's functions lean on. Assumes nothing.
pub mod Failed
pub mod Kinds
pub mod Passed
pub mod Passing
pub mod Places
pub mod Progress
pub mod Seen
