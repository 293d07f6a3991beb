pub mod Calls
pub mod Keeping
