pub mod Asked
pub mod Ways
