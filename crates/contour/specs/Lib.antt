-- The definitions that the contracts cite, then the laws of them.
pub mod Notes
pub mod Promises
