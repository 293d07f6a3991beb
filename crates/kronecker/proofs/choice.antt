-- What the proofs of `choice` use.
pub mod Choosing
pub mod Calling
