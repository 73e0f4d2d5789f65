-- The definitions that the contracts cite, then the laws of them.
pub mod Walk
pub mod Code
pub mod States
pub mod Named
pub mod Visits
pub mod Enough
pub mod Marks
pub mod Later
pub mod Promises
