pub mod Cost
pub mod Forms
pub mod Ranks
pub mod Vectors
pub mod Calls
pub mod Words
