pub mod Choices
pub mod Prices
pub mod Values
pub mod Polarities
pub mod Theorems
pub mod Halves
pub mod Determined
