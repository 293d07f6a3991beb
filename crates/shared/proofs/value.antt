-- What the proofs of `value` use.
mod Wording
