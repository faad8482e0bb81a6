pub mod SoundNames
pub mod EntryOrder
pub mod Filter
pub mod Tally
pub mod Worked
