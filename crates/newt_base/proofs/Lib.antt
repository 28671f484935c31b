pub mod Digits
pub mod Numerals
pub mod HexTexts
pub mod Writing
