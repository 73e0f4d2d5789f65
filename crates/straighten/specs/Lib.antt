-- The definitions that the contracts cite.
pub mod Runs
pub mod Promises
pub mod Reread
