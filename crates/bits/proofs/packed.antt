-- What the proofs of `packed` and of the crates that compute with it use.
pub mod Words
pub mod Passes
pub mod Packing
pub mod Literals
pub mod Alone
