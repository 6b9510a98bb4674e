pub mod Answered
pub mod Asking
pub mod Errors
pub mod Kept
pub mod Whole
