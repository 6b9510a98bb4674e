pub mod Amended
pub mod Laws
