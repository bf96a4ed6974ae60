-- What `wellformed` means: read Lent. `Private` has what only contracts of private functions cite.
pub mod Lent
pub mod Private
