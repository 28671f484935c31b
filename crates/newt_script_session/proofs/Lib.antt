pub mod Writing
pub mod Reading
pub mod Counting
pub mod Cutting
pub mod Items
pub mod Rows
pub mod Throwing
pub mod Replying
pub mod Turning
pub mod Crashing
pub mod Acting
pub mod Progress
pub mod Obeying
pub mod Feeding
pub mod Spelling
pub mod Going
pub mod Halting
pub mod Texts
pub mod Summing
pub mod Beginning
pub mod Plain
mod Begun
mod Acted
