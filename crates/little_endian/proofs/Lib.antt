-- The laws of numbers in bytes. Assumes nothing.
pub mod WidthLaws
pub mod NumberLaws
