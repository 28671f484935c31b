pub mod Bare
pub mod Reading
