pub mod Multimap
pub mod Keys
pub mod Buckets
pub mod LastMatches
pub mod Places
