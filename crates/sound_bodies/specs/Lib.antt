pub mod SoundBodies
pub mod FewSets
