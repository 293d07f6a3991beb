-- What the proofs of `decide` and of the functions below it use.
pub mod Deciding
