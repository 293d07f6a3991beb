-- What the proofs of `vector` use.
pub mod Tests
