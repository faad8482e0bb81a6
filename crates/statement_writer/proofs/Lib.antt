pub mod NumberLaws
pub mod RowNames
pub mod WholeStatements
pub mod StatementUnits
pub mod SetStatements
