-- What the proofs of `transform` use.
pub mod Turning
pub mod Room
