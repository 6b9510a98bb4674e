pub mod Courses
pub mod Names
pub mod Refusals
pub mod Serial
pub mod Starts
