pub mod NameLookup
pub mod Sets
