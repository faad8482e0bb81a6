pub mod ComparisonLaws
pub mod Expressions
