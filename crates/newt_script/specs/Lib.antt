pub mod Faults
pub mod Graphs
pub mod Verbs
pub mod Rows
pub mod Lines
pub mod Defined
