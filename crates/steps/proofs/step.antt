-- What the proofs of `step` use, and what a step is for crates above.
pub mod Stepping
pub mod OnKind
