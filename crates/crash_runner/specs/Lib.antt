pub mod Crashes
pub mod Underway
