pub mod Book
pub mod Histories
pub mod Fields
pub mod Settled
