pub mod Bits
pub mod Square
pub mod Written
pub mod AddedArrows
pub mod Closures
pub mod LongestChains
pub mod TableRanks
