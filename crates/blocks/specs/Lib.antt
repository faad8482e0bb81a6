pub mod Opened
pub mod Names
pub mod Worked
