pub mod Cells
pub mod Lists
pub mod Blocks
pub mod Index
