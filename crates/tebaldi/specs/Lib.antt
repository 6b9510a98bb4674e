pub mod Endings
pub mod Shows
