pub mod Names
pub mod Listed
pub mod Readers
pub mod Reads
