pub mod IsSound
pub mod TableCounts
