pub mod Ranges
pub mod Patches
pub mod Calls
