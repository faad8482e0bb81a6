pub mod Code
pub mod Numbered
pub mod UnitWrites
