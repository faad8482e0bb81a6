pub mod Looks
pub mod Reads
