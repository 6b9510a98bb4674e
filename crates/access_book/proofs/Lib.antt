pub mod Among
pub mod Places
pub mod Touches
pub mod Filing
