pub mod Entering
pub mod Filing
pub mod FreeSlots
pub mod Holders
pub mod Releasing
