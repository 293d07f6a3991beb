pub mod Words
pub mod Determined
