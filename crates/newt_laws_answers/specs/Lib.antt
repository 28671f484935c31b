pub mod WorldAt
pub mod Faces
pub mod Tests
pub mod There
pub mod Bounds
pub mod Fetched
