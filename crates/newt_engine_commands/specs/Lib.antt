pub mod Declares
pub mod Plans
