-- What a file says, and the theorems on it, leaves first.
pub mod File
pub mod ReadLists
pub mod Encoded
pub mod RoundTrip
pub mod Accepted
pub mod Decided
pub mod Examples
pub mod Promises
