pub mod Codes
pub mod Orders
