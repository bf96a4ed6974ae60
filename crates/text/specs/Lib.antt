-- What `text` means: `Lent` says what becomes of the bytes lent, `listing` of the crate `search` which bytes are put there, `Right`
-- what demand 3 says of them. `Private` has what only
-- contracts of private functions cite.
pub mod Deciding
pub mod Lent
pub mod Right
pub mod Private
