pub mod SharedScripts
pub mod Listed
pub mod SharedRun
pub mod Calls
