pub mod Refusals
pub mod Written
pub mod Listed
pub mod Pieces
pub mod Noted
