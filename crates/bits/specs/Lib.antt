pub mod Bits
pub mod Below
pub mod Sums
pub mod Outcomes
pub mod Packed
