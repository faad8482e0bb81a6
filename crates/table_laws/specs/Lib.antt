pub mod Shown
pub mod SoundTable
