pub mod Blockers
pub mod Registered
pub mod Waits
