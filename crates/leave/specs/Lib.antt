-- The definition that a contract cites, and what the functions promise.
pub mod Points
pub mod Promises
