-- The laws of printing a map as text, and that it reads back. Assumes nothing.
pub mod Printing
pub mod ReadBack
pub mod Determined
