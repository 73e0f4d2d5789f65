-- The definitions that the contracts cite, examples, then the laws of them.
pub mod Millimetres
pub mod Examples
pub mod Exact
pub mod Promises
