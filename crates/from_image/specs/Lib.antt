-- What the contracts of this crate's own steps cite, with its laws.
pub mod Filling
