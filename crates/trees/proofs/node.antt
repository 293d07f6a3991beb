-- What the proofs of `node` use.
pub mod Firsts
