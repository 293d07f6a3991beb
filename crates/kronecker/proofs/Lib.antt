pub mod Highest
pub mod Theorems
pub mod Determined
