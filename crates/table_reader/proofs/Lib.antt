-- Laws on lists of bytes, for the proofs of this crate and of those that read tables.
pub mod Fields
pub mod RecordLaws
pub mod BodyRecords
pub mod BodyPlaces
pub mod SoundPlaces
