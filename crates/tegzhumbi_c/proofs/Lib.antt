pub mod FourBytes
pub mod AcceptedIsZero
