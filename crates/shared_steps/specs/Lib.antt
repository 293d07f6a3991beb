pub mod SharedSteps
pub mod Effects
pub mod Calls
pub mod Changes
pub mod Letters
