pub mod Format
pub mod Journal
pub mod Kept
pub mod Views
