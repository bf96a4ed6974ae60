-- What `holding` means is said in `board`: its files Board, Holds, Table and EntryPoints. `Private` has what only contracts of private functions cite.
pub mod Private
