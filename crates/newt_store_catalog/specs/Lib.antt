pub mod Readable
pub mod Stands
pub mod Opening
pub mod Gathering
pub mod Reading
pub mod Calls
