pub mod Summary
pub mod Numbers
