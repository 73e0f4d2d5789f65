-- The definitions that the contracts cite, then the laws of them.
pub mod HoleOrder
pub mod HoleLists
pub mod Insertion
pub mod HoleLaws
pub mod OrderLaws
pub mod Promises
