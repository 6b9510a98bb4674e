pub mod ScriptStates
