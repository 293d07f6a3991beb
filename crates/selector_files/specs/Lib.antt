-- What the contracts of a path cite. Assumes nothing.
pub mod Paths
