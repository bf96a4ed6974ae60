-- Laws of what is prepared of a table.
pub mod Conflicts
pub mod Hypotheses
pub mod Rules
pub mod Stores
pub mod Sums
