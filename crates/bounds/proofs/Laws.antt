pub mod Cases
pub mod Demand3
pub mod Driver
pub mod Overlap
pub mod Runs
