pub mod OperatorLaws
pub mod TestLaws
