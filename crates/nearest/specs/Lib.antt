-- The definitions that the contracts cite, then the laws of them.
pub mod Search
pub mod SearchLists
pub mod Least
pub mod Promises
