-- What the proofs of `table` use.
pub mod Joining
pub mod Filling
