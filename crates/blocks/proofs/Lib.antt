pub mod BlockLists
pub mod BlockFilter
pub mod FullNames
