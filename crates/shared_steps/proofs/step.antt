-- What the proofs of `step` use.
pub mod Stepping
