-- The definitions that the contracts cite, then the laws of them.
pub mod Table
pub mod TableChecks
pub mod Sound
pub mod Examples
pub mod TableLaws
pub mod Tests
pub mod Passing
pub mod Fronts
pub mod Promises
