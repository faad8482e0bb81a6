pub mod Totals
pub mod SoundRows
