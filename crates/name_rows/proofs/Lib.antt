pub mod Rows
pub mod Fronts
pub mod RepeatLaws
