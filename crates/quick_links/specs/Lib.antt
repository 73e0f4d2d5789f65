-- The quick question, and what the contracts cite.
pub mod Quick
pub mod Promises
