-- Definitions that these tests need.
pub mod Trials
