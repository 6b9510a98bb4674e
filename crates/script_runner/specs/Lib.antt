pub mod replay
pub mod turns
pub mod Runs
