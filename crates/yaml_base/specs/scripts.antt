pub mod ScriptWords
pub mod Script
