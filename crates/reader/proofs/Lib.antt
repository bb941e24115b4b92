-- Laws of this crate's loops, each turn without the code.
pub mod Turns
