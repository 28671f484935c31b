pub mod Listed
pub mod Backed
pub mod Written
pub mod Restored
