pub mod Index
pub mod Ordered
pub mod Calls
pub mod Counting
