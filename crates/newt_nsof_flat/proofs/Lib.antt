pub mod Spelled
pub mod Streams
