pub mod Disk
pub mod Copies
