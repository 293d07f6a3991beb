-- The laws of reading a map as text. Assumes nothing.
pub mod Products
pub mod Saying
pub mod Reading
pub mod Determined
