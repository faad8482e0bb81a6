pub mod Reading
pub mod AttributeSets
