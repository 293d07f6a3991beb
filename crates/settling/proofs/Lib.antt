pub mod Forming
pub mod Cheapest
pub mod Determined
pub mod Outcomes
