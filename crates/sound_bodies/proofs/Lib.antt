-- Laws for the proofs of this crate and of those that ask whether a table is sound.
pub mod LayoutTest
pub mod SoundBodyLaws
pub mod SoundImage
pub mod WithinLaws
