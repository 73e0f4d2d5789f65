-- The definitions that the contracts cite, then the laws of them.
pub mod Edges
pub mod Gaps
pub mod Nearer
pub mod Promises
