pub mod Codes
pub mod Masks
pub mod Apart
pub mod CubeRecord
pub mod Lists
pub mod Calls
pub mod Determined
pub mod Meaning
