pub mod BodyLengths
pub mod HeaderLaws
pub mod Assembly
