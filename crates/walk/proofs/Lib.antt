-- The laws that the proofs of the functions cite.
pub mod Steps
pub mod Walks
pub mod Starts
