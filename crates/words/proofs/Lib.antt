pub mod Dots
pub mod KeyLaws
pub mod Meaning
