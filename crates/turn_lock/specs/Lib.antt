pub mod Counts
pub mod Views
pub mod Rule
pub mod Steps
pub mod Calls
pub mod Seats
