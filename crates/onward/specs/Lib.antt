-- The definitions that the contracts cite, then the laws of them.
pub mod Goes
pub mod Named
pub mod Promises
