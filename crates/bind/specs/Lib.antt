-- The definitions that the contracts cite, then the laws of them.
pub mod Outcome
pub mod Examples
pub mod Promises
