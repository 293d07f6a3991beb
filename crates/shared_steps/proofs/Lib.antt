pub mod Fair
pub mod Reasons
pub mod Inversion
pub mod Sound
pub mod Projects
pub mod Kept
pub mod Meaning
pub mod Determined
