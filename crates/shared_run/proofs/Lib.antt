pub mod SharedScripts
pub mod Pending
pub mod Value
pub mod Counts
pub mod Refusals
pub mod Outcomes
pub mod Determined
