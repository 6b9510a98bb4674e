pub mod FactsView
pub mod Versions
pub mod Calls
pub mod Standing
