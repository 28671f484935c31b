pub mod Frames
pub mod Numbers
pub mod Spelled
pub mod Lists
pub mod Loop
pub mod Sifting
pub mod Declared
pub mod Sifted
