-- The definitions that the contracts cite.
pub mod Delivery
pub mod Promises
