pub mod Alias
