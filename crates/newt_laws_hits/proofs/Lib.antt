pub mod Cuts
pub mod Stepping
pub mod Origins
pub mod Passing
pub mod Agreeing
pub mod Members
pub mod Searches
pub mod Numbers
