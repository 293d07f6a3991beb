-- What the contracts of lines cite. Assumes nothing.
pub mod Bytes
pub mod Lines
pub mod Words
pub mod Gathering
