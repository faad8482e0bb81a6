pub mod Asked
pub mod DecisionByText
