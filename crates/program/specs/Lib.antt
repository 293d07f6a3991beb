-- What the contracts of a line's number and of a label's line cite. Assumes nothing.
pub mod Lines
pub mod Labels
