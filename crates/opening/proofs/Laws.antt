-- Laws that the proofs of this crate's functions lean on. Assumes nothing.
pub mod Opening
