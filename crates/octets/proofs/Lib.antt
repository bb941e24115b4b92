-- What the proofs of several functions share.
pub mod Puts
pub mod Steps
pub mod Turns
