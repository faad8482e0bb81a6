pub mod Declares
pub mod SortCounts
pub mod NewEntries
