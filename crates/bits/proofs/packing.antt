-- What the proofs of `packing` and of `packed` use.
pub mod Spreading
pub mod Packing
pub mod Putting
