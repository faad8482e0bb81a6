pub mod PutBytes
pub mod TableSizes
pub mod TableBodies
