pub mod Stands
pub mod Next
pub mod Patch
pub mod Calls
pub mod Writes
pub mod Fill
