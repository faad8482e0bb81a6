pub mod DottedLaws
pub mod SpellingLaws
