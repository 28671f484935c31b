pub mod Best
pub mod Orders
pub mod Union
pub mod View
