pub mod ReferenceLaws
pub mod OperatorUnits
pub mod RemainingOperands
pub mod FirstItems
pub mod SetOperands
