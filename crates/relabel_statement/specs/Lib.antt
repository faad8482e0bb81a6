pub mod RelabelWrites
