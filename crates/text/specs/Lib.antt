-- What the contracts of printing and reading cite. Assumes nothing.
pub mod Places
pub mod Blanks
pub mod Numbers
pub mod Cubes
pub mod Steps
pub mod Printing
pub mod Reading
