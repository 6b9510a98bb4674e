pub mod Kept
pub mod Serving
pub mod Starts
pub mod Status
