-- The laws of printing and of reading, and that what was printed reads back. Assumes nothing.
pub mod Laying
pub mod Numbers
pub mod Reading
pub mod Fields
pub mod Steps
pub mod ReadBack
pub mod Determined
