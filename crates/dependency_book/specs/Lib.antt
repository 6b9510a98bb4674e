pub mod Orderly
pub mod Dependencies
pub mod Places
pub mod Books
