-- What the proofs of `check` use.
mod Rows
