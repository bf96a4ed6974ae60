-- Laws of explanations: which sets are choices, and which explanations are minimal.
pub mod Choices
pub mod Minimal
