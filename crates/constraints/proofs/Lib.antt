-- Laws for the proofs of this crate.
pub mod StackLaws
pub mod MaskLaws
pub mod ScanLaws
pub mod BoundedStack
pub mod SameView
pub mod ImageAnswers
pub mod HeaderPlaces
pub mod ClassWalkLaws
