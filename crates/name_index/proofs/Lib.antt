pub mod Words
pub mod ChainLaws
