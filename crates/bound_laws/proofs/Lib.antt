pub mod Places
pub mod Outcomes
pub mod Answers
