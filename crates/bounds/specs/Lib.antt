-- What `bounds` means: read Demand3, then Overlap, what a refusal with 32 says, and Driver, demand 3 of running code; Cases last.
pub mod Demand3
pub mod Overlap
pub mod Driver
pub mod Cases
