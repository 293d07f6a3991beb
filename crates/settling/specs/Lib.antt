pub mod Candidates
pub mod Choice
pub mod Calls
