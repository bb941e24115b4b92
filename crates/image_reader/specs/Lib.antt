-- What the contracts of this crate's own steps cite, and the answers of reading to an image.
pub mod Laying
pub mod Answering
