pub mod Comparisons
pub mod Operators
