pub mod ReaderStates
pub mod BlockFaults
pub mod OpenedBlocks
pub mod ClosedBlocks
