pub mod Attaching
pub mod Since
