-- What the contracts of this crate's own steps cite beside the definitions of `annex`.
pub mod Filling
pub mod Finding
