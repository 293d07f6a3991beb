-- What the contracts of scripts as text cite. Assumes nothing.
pub mod Scripts
pub mod Inside
