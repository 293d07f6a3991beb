pub mod Compact
pub mod Calls
pub mod StepBytes
pub mod Keeping
