pub mod LeastStep
pub mod Faultless
