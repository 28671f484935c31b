pub mod Same
pub mod Forms
