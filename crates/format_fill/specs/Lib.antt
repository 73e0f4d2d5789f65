-- What the contracts cite.
pub mod Promises
