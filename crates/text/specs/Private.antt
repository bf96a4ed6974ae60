-- What only contracts of private functions cite: read Putting.
pub mod Putting
