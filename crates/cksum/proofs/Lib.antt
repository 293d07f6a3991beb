pub mod Remainders
pub mod Determined
