-- What the contracts of this crate cite. Assumes nothing.
pub mod Calls
pub mod Steps
