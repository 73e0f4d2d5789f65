-- What putting a node's entries in order leaves as it is: the entries themselves, what the checks say, and what is laid from them.
pub mod Rearranged
pub mod Orders
pub mod Arranged
pub mod Again
pub mod Rechecked
pub mod Relaid
pub mod Promises
