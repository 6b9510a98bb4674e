pub mod Segments
pub mod CellLists
pub mod AllLists
