pub mod Trees
pub mod Ending
pub mod Standings
pub mod Found
pub mod Opened
pub mod Refused
pub mod Serial
