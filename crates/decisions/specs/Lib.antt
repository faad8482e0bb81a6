pub mod Asked
pub mod TableAnswers
pub mod KnownNames
