-- The three demands over the promises of `annex`, for whoever reads one file; and their proofs.
pub mod Demands
pub mod ProvedProfile
pub mod ProvedCarriers
pub mod Proved
