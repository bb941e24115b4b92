-- What the contracts of this crate's own steps, and of `writer`'s, cite beside the definitions of `annex`, with its laws.
pub mod Laying
pub mod Refusing
