-- Laws for the proof of `sound`, and what a table that is found sound holds.
pub mod AnswerLaws
pub mod SoundTable
pub mod CountedNames
