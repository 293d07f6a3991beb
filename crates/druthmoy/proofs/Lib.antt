pub mod Starts
pub mod Determined
