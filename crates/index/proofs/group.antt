-- The laws that only the functions of `group` need.
pub mod Comparing
pub mod Sizes
pub mod Grouping
