pub mod Profiles
pub mod Squares
