-- What the proofs of `word` and of `packed` use.
pub mod Masks
