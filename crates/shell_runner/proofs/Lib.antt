pub mod Replied
pub mod Going
pub mod FewLines
pub mod Brought
pub mod Shown
pub mod Released
pub mod Ending
pub mod EpochEnds
