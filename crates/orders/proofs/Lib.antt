pub mod Codes
pub mod Orders
pub mod Tables
pub mod Determined
