-- The laws of a line's number, of a label's line, of reading a line and of printing one. Assumes nothing.
pub mod Counts
pub mod Lines
pub mod Labels
pub mod Texts
pub mod Determined
