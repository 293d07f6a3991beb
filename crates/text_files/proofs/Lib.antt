-- The laws behind the proofs of this crate. Assumes nothing.
pub mod Costs
pub mod Texts
