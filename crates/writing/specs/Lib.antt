-- What is written into a lent buffer, leaves first.
pub mod Cuts
pub mod Put
pub mod Write
pub mod Promises
