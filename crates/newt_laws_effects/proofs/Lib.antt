pub mod Found
pub mod Telling
pub mod Refusing
pub mod Bounding
pub mod Most
