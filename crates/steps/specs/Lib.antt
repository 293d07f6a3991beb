pub mod Moves
pub mod Steps
pub mod Effects
pub mod Rules
pub mod Calls
pub mod Changes
pub mod Kinds
pub mod Letters
