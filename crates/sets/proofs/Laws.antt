pub mod Atoms
pub mod Comparisons
pub mod Dictionary
pub mod Lists
pub mod Masks
pub mod Sets
pub mod Tests
