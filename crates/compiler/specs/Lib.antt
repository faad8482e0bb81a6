pub mod Passes
pub mod Promise
