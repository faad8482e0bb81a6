pub mod Demands
pub mod NoSlips
pub mod ObjectRoles
pub mod Lines
