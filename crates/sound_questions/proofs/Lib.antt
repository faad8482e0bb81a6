-- Laws for the proofs of the questions.
pub mod Known
