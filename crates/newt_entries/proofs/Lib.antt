pub mod Putting
pub mod Fits
pub mod Steps
pub mod Rows
pub mod Records
pub mod Written
