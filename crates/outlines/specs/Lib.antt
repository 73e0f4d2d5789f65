-- The definition that the contracts cite, then what is true of it.
pub mod Outlines
pub mod Straightening
pub mod Grid
pub mod Checking
pub mod Promises
