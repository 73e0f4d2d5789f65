-- The form of the file, and what a step of a run of records is, leaves first.
pub mod Limits
pub mod Records
pub mod Steps
pub mod Promises
