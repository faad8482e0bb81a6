pub mod Leaves
pub mod Nodes
pub mod Places
pub mod OperandLoop
