pub mod SharedRecord
pub mod Lists
pub mod Calls
pub mod Outputs
pub mod Determined
