pub mod MemoryLaws
pub mod Sections
pub mod KeywordKinds
pub mod StepLaws
pub mod ByKeyword
