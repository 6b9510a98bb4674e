pub mod Latest
pub mod OneCommit
pub mod Lookup
pub mod Prefixes
pub mod Laws
pub mod Sizes
