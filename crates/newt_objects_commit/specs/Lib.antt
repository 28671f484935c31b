pub mod Commit
pub mod Faults
pub mod Batch
pub mod Places
pub mod Names
pub mod Patch
pub mod Calls
