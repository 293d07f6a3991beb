-- The laws of a script as text: printed, read line by line, and read back. Assumes nothing.
pub mod Printing
pub mod Saying
pub mod Gathered
pub mod ReadBack
pub mod Determined
