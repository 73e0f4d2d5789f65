-- The definitions that the contracts cite, then the laws of them.
pub mod Next
pub mod Known
pub mod States
pub mod Choice
pub mod Topmost
pub mod Fine
pub mod Promises
