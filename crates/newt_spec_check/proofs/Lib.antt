mod Rows
pub mod Finds
pub mod Journal
pub mod Objects
pub mod Counts
pub mod Sound
pub mod Complete
pub mod Bytes
pub mod Law
pub mod Entries
