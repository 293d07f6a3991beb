pub mod Choices
pub mod Calls
pub mod Words
