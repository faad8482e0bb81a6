pub mod Demands
pub mod Slips
pub mod ObjectRole
pub mod Lines
