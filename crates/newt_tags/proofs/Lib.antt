pub mod Looked
pub mod Bits
