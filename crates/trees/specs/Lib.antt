pub mod Trees
pub mod Least
pub mod Calls
pub mod Words
