pub mod Chars
pub mod Parts
pub mod Words
pub mod Ascii
