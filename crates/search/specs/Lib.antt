-- What `search` means, in the order of document 01: read Explanations, Order, Search, Layout, Store, EntryPoints, Listing; Cases last. `Entries` has
-- what contracts between crates cite.
pub mod Explanations
pub mod Order
pub mod Entries
pub mod Search
pub mod Layout
pub mod Store
pub mod EntryPoints
pub mod Listing
pub mod Cases
