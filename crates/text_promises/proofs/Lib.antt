-- What is promised of maps and scripts as text. Assumes nothing.
pub mod Meaning
pub mod Gathered
pub mod Accepted
pub mod ReadCall
pub mod Burned
pub mod SettledOne
pub mod OutputsBelow
pub mod SettledShared
pub mod ScriptAgain
