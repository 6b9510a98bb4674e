pub mod Effects
pub mod Seats
pub mod Rounds
pub mod Turns
pub mod Logged
