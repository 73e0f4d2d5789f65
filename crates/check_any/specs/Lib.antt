-- What the checks say, and what the public functions promise.
pub mod Lengths
pub mod Says
pub mod Promises
