pub mod RelabelShapes
pub mod RelabelAnswers
