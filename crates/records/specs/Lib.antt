pub mod Numbers
pub mod Places
pub mod Records
pub mod Fields
pub mod Answers
pub mod Reasons
pub mod Strides
pub mod Kinds
