pub mod Asked0
pub mod Asked1
pub mod Unsound0
pub mod Unsound1
pub mod Odd0
