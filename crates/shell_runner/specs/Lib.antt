pub mod States
pub mod Answers
pub mod Holders
pub mod Runs
pub mod Flows
