-- The definition that the contract cites.
pub mod Precedence
pub mod Promises
