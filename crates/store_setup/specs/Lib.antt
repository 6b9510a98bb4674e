pub mod profile
pub mod tree
pub mod SetupView
pub mod Sound
pub mod Stores
