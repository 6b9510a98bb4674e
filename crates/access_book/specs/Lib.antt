pub mod Touched
pub mod Books
pub mod Places
