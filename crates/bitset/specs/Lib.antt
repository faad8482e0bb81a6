pub mod Sets
pub mod Complements
pub mod Relations
