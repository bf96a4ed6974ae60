pub mod Lists
pub mod Sets
pub mod Masks
pub mod Dictionary
pub mod Words
