-- What the contracts of this crate's own steps cite beside the definitions of `annex`, with its laws.
pub mod Left
pub mod Entries
