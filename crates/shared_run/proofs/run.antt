-- The laws that only the functions of `run` need.
pub mod Undoing
pub mod Checked
