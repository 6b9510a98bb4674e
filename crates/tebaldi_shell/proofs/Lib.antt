mod Named
mod Opened
pub mod Refused
