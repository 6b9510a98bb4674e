pub mod Calls
pub mod Disk
pub mod Sizes
pub mod Log
pub mod LogLaws
pub mod Left
pub mod Spare
pub mod Spares
