pub mod Section
pub mod Lookup
pub mod Append
pub mod SearchAnswers
