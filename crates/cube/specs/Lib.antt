pub mod Cubes
pub mod CubeRecord
pub mod Lists
pub mod Calls
pub mod Checking
pub mod Kinds
