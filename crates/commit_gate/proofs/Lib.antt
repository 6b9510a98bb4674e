pub mod Finds
pub mod CommitWaits
