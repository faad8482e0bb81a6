pub mod Counts
pub mod Ends
pub mod Items
pub mod Rows
pub mod Frames
