-- A record's struct walked along, and its limits, with their laws.
pub mod Along
pub mod Held
pub mod Limits
pub mod Typed
