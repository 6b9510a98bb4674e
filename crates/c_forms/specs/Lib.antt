pub mod Causes
pub mod Events
pub mod Laws
pub mod Lines
pub mod Replies
pub mod Requests
pub mod Rows
