pub mod Shapes
pub mod Runs
pub mod Time
pub mod Waiting
pub mod Reading
pub mod Cascades
pub mod Causes
