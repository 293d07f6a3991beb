pub mod Calls
pub mod Determined
pub mod Converted
