pub mod Maps
pub mod Parts
pub mod Refusals
pub mod Answers
pub mod Calls
pub mod Turns
