-- Laws that the proofs of this crate cite.
pub mod Flat
pub mod Pairs
pub mod Turns
