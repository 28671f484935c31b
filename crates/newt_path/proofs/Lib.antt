mod Numbers
mod Named
mod Reached
mod Joins
mod Puts
mod Trail
pub mod Reading
mod Ends
