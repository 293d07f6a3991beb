pub mod NarrowRecord
pub mod Calls
pub mod Undone
pub mod Kinds
