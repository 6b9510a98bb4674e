pub mod replay
pub mod turns
