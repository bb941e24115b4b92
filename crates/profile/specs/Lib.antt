-- Laws that the proofs of this crate cite.
pub mod Pairs
pub mod Keeping
pub mod Answering
pub mod Telling
