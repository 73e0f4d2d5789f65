-- The definitions that the contracts cite, then the laws of them.
pub mod Outcome
pub mod Tables
pub mod Ledger
pub mod Promises
