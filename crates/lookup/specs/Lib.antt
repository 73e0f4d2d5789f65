-- The definitions that the contracts cite, then the laws of them.
pub mod Lookups
pub mod Examples
pub mod LookupLaws
pub mod Promises
