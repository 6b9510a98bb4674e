mod Parsed
pub mod FewLines
