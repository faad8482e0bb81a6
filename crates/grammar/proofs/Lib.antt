pub mod BlockLaws
pub mod Keywords
pub mod Statements
