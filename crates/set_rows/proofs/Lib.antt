pub mod GapLaws
pub mod GrantLaws
pub mod RelationLaws
