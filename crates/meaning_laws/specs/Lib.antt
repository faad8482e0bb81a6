pub mod Mentions
pub mod Clashes
