pub mod Standing
pub mod Controls
