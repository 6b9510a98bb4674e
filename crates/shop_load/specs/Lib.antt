pub mod Loads
pub mod Runs
pub mod Shop
pub mod Summaries
