pub mod Standing
pub mod Ends
pub mod Told
pub mod Bounds
pub mod Kept
pub mod Calls
pub mod Laws
pub mod Copies
