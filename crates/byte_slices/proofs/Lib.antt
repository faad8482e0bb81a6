-- The laws of parts and of what is put in their place. Assumes nothing.
pub mod PartLaws
pub mod CopyLaws
