-- What the filling of an index needs.
pub mod Integers
