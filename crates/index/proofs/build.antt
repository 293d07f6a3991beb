-- The laws that only the functions of `build` need.
pub mod Placing
pub mod Rebuilding
pub mod Building
