pub mod Said
pub mod Noting
pub mod Ways
pub mod Ranks
pub mod ListEdits
pub mod Alone
pub mod Aheads
pub mod Following
