pub mod Finishes
