pub mod Recoverable
pub mod Rounds
