pub mod CandidateLaws
pub mod TryLaws
pub mod FindLaws
pub mod NewEntry
pub mod EmptyChains
