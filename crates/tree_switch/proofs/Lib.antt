pub mod GoingOn
pub mod WholeOrder
pub mod Starting
pub mod Refusing
pub mod SameNames
pub mod Draining
