-- Laws for the proofs of this crate, and for those who ask by a summary.
pub mod PlaceLaws
pub mod NamesDiffer
pub mod FoundNumbers
pub mod SummaryLaws
pub mod OwnBytes
