pub mod Inputs
pub mod Parts
pub mod Readings
pub mod Refusals
pub mod Runs
pub mod Steps
