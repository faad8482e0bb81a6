-- Laws for the proofs of this crate and of those that ask whether a table is sound.
pub mod PieceLaws
pub mod RowLaws
pub mod ConstraintLaws
pub mod StatementLaws
