pub mod Ascending
pub mod Bools
pub mod CellOrder
pub mod Padding
pub mod SameCells
pub mod Texts
