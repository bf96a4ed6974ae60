pub mod Invariant
pub mod Opening
pub mod Step
pub mod Consequences
pub mod Sequence
pub mod Demand3
pub mod Overlap
pub mod Laws
