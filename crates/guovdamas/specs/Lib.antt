-- The numbers at the boundary.
pub mod Numbers
pub mod Promises
