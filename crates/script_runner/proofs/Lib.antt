pub mod lemmas
pub mod Runs
