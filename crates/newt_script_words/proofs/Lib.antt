pub mod Trimming
pub mod Quotes
pub mod Forms
pub mod WordLists
pub mod Pieces
pub mod Apart
