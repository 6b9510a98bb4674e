pub mod Drawing
pub mod Guarantees
