pub mod Granting
pub mod ByStatements
pub mod Longer
pub mod Before
