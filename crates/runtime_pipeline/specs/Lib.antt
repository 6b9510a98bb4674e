pub mod Predecessors
pub mod Standing
