-- What only contracts of private functions cite. Nothing here has to be believed. Assumes nothing.
pub mod Remembered
