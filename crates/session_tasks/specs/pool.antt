pub mod Taken
pub mod Rising
pub mod Tallies
pub mod HandedOut
pub mod Waits
pub mod Suits
pub mod Hands
pub mod Workers
