pub mod Cells
pub mod Names
pub mod Padding
pub mod Rows
