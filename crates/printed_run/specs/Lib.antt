pub mod Histories
pub mod Printed
