pub mod NameKinds
pub mod ResolvedUnits
