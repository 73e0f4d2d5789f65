-- What the contracts cite, then the law of doubled numbers, with examples.
pub mod Promises
pub mod Doubled
pub mod Examples
