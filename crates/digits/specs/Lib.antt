-- What the contracts of this crate's functions cite beside the definitions of `annex`.
pub mod Characters
pub mod Pairs
pub mod Unpacked
