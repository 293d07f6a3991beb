pub mod Showing
pub mod Calls
pub mod Determined
