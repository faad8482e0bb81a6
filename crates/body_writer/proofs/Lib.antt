pub mod PutLaws
pub mod SetRows
pub mod ReferenceSets
pub mod RelationBodies
pub mod TransitionRecords
