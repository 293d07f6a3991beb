-- Laws of settling a map.
mod Pricing
pub mod Burning
mod Settling
mod Finishing
