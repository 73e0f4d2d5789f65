-- The definitions that the contracts cite, then the laws of them.
pub mod Candidates
pub mod EdgeLists
pub mod EdgeListLaws
pub mod Promises
