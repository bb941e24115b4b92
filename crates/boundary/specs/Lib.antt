-- Laws for the functions for Rust and C: a message's record as its image and back, and that places and values are below 2^16.
pub mod Round
pub mod Small
pub mod SmallImages
pub mod SmallProfile
pub mod SmallCarriers
