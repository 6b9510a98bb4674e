pub mod Replies
pub mod Puts
pub mod Newest
pub mod Asked
pub mod Answered
pub mod Effects
