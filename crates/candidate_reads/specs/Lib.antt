pub mod Asked
pub mod Shown
pub mod Kept
pub mod Places
