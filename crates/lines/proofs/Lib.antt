-- The laws of lines, of where a byte stands, of words, of what is gathered from the lines of a text, and of lines as they are printed. Assumes nothing.
pub mod Lines
pub mod Finding
pub mod Words
pub mod Gathering
pub mod Printed
pub mod Determined
