pub mod Numbered
pub mod Moves
