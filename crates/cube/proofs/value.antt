-- What the proofs of `value` use.
pub mod Returns
pub mod Valuing
