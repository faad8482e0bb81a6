pub mod Stack
pub mod TableConstraints
