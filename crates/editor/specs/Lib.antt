-- The steps of an edit as the code takes them, each with its laws.
pub mod Whole
pub mod Steps
pub mod Splicing
pub mod Cuts
