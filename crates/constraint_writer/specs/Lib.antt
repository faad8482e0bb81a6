pub mod ExpressionWrites
pub mod RowFields
