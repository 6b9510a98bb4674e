pub mod lemmas
pub mod Placing
pub mod InOrder
pub mod TaskStages
pub mod Distinct
pub mod Walking
pub mod FirstErrors
