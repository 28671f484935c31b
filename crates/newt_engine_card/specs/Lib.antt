pub mod Cards
pub mod Bounds
pub mod Calls
