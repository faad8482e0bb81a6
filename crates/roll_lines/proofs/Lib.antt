pub mod AppendLaws
pub mod NamesOfThings
pub mod Lines
pub mod Rolls
