pub mod Advances
pub mod ScriptStates
