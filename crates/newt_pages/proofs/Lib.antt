pub mod Tables
pub mod Committed
pub mod Copying
pub mod Moving
pub mod Replaced
pub mod Caching
