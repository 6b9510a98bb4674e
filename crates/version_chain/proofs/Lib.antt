pub mod Cells
pub mod Middle
pub mod Ranges
pub mod Places
