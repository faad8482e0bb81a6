pub mod Weight
pub mod Shape
pub mod Kinds
pub mod Coded
pub mod CodeHolds
