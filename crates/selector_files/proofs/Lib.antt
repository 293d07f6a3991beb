-- The laws of a path. Assumes nothing.
pub mod Paths
