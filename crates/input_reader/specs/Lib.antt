pub mod Inputs
pub mod Reads
pub mod Readings
pub mod Refusals
pub mod Tasks
