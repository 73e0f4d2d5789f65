-- The lines of the answer as bytes.
pub mod Lines
pub mod Again
pub mod Promises
