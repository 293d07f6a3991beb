pub mod Keeping
pub mod Finishing
pub mod AsRun
pub mod Determined
