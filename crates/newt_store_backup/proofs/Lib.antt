pub mod Listed
pub mod Steps
pub mod Again
pub mod Kept
pub mod Restored
pub mod Outcomes
pub mod Rows
