pub mod Hypotheses
pub mod Rules
pub mod Prepared
pub mod Private
