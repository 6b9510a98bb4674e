pub mod Lists
pub mod CellOrder
pub mod Stored
pub mod Plain
