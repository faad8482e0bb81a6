pub mod FilterLaws
pub mod EntryOrderLaws
pub mod BodyLaws
pub mod TallyLaws
pub mod WalkLaws
pub mod Answers
