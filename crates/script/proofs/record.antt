-- What the proofs of `record` use.
mod Reading
