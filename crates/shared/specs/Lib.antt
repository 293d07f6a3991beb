pub mod SharedRecord
pub mod Outputs
pub mod Calls
pub mod Kinds
