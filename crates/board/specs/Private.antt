-- What no public contract cites, only laws and contracts of private functions, here or in the crates above. Nothing here has to be believed.
-- Assumes nothing.
pub mod Fields
pub mod Lent
pub mod Passes
