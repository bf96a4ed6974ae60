-- What only contracts of private functions cite. Nothing here has to be believed. Assumes nothing.
pub mod Filled
pub mod Kinds
pub mod Seen
pub mod Taking
