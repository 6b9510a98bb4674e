pub mod Holders
pub mod Logs
