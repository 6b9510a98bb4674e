pub mod Places
pub mod Lists
pub mod ListEdits
mod Slots
mod Numbers
