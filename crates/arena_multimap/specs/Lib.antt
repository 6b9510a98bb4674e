pub mod Arenas
pub mod CellMultimap
pub mod NumberedLists
