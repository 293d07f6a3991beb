-- What the proofs of `least` use.
pub mod Costing
