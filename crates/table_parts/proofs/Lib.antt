-- Laws for the proofs of this crate.
pub mod AskedTable
pub mod RecordLaws
pub mod EntriesOn
pub mod ShownLaws
pub mod GivesBack
pub mod DistinctNames
pub mod Determined
pub mod Worked
