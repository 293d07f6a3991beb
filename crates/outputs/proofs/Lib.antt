pub mod Gathering
pub mod Sharing
pub mod Calls
pub mod Round
pub mod Determined
