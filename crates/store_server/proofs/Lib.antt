pub mod Going
pub mod Unfinished
pub mod Faults
pub mod SharedLives
