-- What the public functions promise.
pub mod Promises
