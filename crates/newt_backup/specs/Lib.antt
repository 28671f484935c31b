pub mod Backup
pub mod Texts
pub mod Together
pub mod Contents
pub mod Checks
