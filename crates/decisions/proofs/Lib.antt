pub mod SoundLaws
pub mod TransitionLaws
pub mod NameLaws
pub mod ContextLaws
pub mod ChangeLaws
pub mod RelabelLaws
pub mod StatementLaws
pub mod CountedLaws
