pub mod Lists
pub mod Counts
pub mod Parts
pub mod Exits
pub mod Patching
pub mod Putting
pub mod Committing
pub mod Calls
