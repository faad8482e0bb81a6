pub mod Keys
pub mod Numbers
pub mod Parts
