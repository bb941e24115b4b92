-- What the contracts of this crate's own steps cite beside the definitions of `annex`, with its laws.
pub mod Fronts
pub mod Over
pub mod Served
pub mod Drafts
pub mod Walked
pub mod Answered
