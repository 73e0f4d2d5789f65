-- The definitions that the contracts cite, then the laws of them.
pub mod Scan
pub mod Notes
pub mod Visits
pub mod Enough
pub mod Fields
pub mod Held
pub mod Values
pub mod Promises
