pub mod Reads
pub mod Late
pub mod Standing
pub mod Controls
