-- What `files` means is said in `board`: its files File, Load, Table and EntryPoints. `Private` has what only contracts of private functions cite.
pub mod Private
