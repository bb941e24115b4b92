-- Laws of what this crate's functions promise.
pub mod Asked
pub mod Opening
pub mod Stored
