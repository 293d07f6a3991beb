pub mod Carrying
pub mod Run
pub mod Counts
pub mod Pending
pub mod Scripts
pub mod PlainSteps
pub mod Calls
pub mod Progress
