-- The definitions that the contracts cite, then the laws of them.
pub mod Owners
pub mod Giving
pub mod OwnerLaws
pub mod Promises
