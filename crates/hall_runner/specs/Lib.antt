pub mod Outcomes
pub mod Served
pub mod Spent
