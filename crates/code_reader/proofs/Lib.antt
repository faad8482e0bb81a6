pub mod OperandLaws
pub mod Items
pub mod Numbers
pub mod Passes
pub mod RowLaws
pub mod SetPasses
