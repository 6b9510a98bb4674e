pub mod Commits
pub mod Records
pub mod Laws
