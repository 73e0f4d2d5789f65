-- The definition that the contract cites.
pub mod Finish
pub mod Promises
