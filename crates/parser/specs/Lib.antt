pub mod Parses
pub mod Parts
pub mod Remaining
pub mod Runs
