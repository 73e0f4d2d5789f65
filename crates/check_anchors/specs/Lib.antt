-- What the contracts cite.
pub mod Holes
pub mod Promises
