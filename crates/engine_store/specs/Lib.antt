pub mod Halves
pub mod Label
pub mod Lives
pub mod Next
pub mod Opening
pub mod OpeningErrors
pub mod OpeningSteps
pub mod Telling
