-- What the proofs of `search` use.
pub mod Ranges
pub mod Parts
pub mod Whole
