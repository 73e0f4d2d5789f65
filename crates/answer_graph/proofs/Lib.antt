-- What the promise of extraction comes to for binding.
pub mod Extracts
