pub mod Turned
pub mod KeyLaw
pub mod OrderLaws
pub mod Agree
pub mod Valid
