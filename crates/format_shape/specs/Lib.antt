-- The laws of the form of the file, leaves first.
pub mod Shape
pub mod Runs
pub mod Forms
pub mod Promises
