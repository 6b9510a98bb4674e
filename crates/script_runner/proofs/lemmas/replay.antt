pub mod Holders
pub mod Logged
pub mod Within
