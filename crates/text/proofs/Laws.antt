pub mod Answered
pub mod Deciding
pub mod Decimal
pub mod Length
pub mod Lent
pub mod Putting
pub mod Texts
pub mod Right
