-- What the proofs of `settle` and of the function below it use.
pub mod Settling
