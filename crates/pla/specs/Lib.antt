-- What the contracts of maps as text cite. Assumes nothing.
pub mod Names
pub mod Header
pub mod Products
pub mod Pla
pub mod Reading
