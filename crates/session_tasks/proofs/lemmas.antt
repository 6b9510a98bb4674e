pub mod threads
pub mod pool
