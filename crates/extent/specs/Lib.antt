-- The definitions that the contracts cite, examples, then the laws of them.
pub mod Extent
pub mod Examples
pub mod Parts
pub mod Bounds
pub mod Promises
