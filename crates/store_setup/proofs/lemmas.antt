pub mod profile
pub mod tree
