-- What the proofs of `form` use.
pub mod Writing
