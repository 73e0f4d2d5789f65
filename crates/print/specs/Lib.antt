-- The printed answer as bytes, leaves first.
pub mod Answer
pub mod Room
pub mod Lengths
pub mod Examples
pub mod Promises
