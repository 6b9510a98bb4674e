pub mod names
pub mod history
pub mod laws
