pub mod Readers
pub mod Here
pub mod Noting
pub mod Forgetting
pub mod Late
pub mod OrderedLists
pub mod OlderReads
pub mod Said
