pub mod Orderly
pub mod Noting
pub mod Here
pub mod Blockers
