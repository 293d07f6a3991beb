-- What the proofs of `tree` use.
pub mod Putting
pub mod Calling
