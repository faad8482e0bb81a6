pub mod TestLaws
pub mod ColumnLaws
pub mod ClosureLaws
pub mod OperandAttributes
pub mod CycleSearch
