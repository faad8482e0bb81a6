pub mod ClassNames
pub mod ClassPermissions
pub mod ConstrainWrites
pub mod Expressions
pub mod Limits
