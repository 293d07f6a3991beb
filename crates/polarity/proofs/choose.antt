-- What the proofs of `choose` use.
pub mod Search
