pub mod Path
pub mod Scope
pub mod Symbols
