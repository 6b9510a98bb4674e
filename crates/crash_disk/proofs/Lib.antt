pub mod Logged
pub mod Groups
pub mod Spares
pub mod Places
