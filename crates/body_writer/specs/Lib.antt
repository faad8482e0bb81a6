pub mod WrittenBytes
pub mod Bodies
