-- The definition that the contracts cite, then what is true of it.
pub mod Extract
pub mod Promises
pub mod Lends
pub mod Theorems
pub mod Examples
