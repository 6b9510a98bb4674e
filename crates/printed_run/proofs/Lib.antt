pub mod Names
pub mod Histories
mod Audited
mod Engines
mod Written
