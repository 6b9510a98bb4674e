pub mod Counts
pub mod AtWork
pub mod Offers
pub mod Circles
pub mod Underway
pub mod SessionOrder
