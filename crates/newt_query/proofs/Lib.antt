pub mod Given
pub mod Turns
pub mod TextForms
pub mod PathForms
pub mod Form
pub mod Passing
pub mod Keeping
