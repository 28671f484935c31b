pub mod Kept
pub mod Steps
pub mod Replay
pub mod Placed
pub mod Commits
