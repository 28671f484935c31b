pub mod Lines
pub mod Reports
pub mod Gates
pub mod Parts
pub mod Seen
