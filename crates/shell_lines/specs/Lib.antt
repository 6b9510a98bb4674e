pub mod Lines
pub mod Commands
pub mod Answers
pub mod Sessions
