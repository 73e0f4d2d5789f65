-- The entries of a `Cross` that have been taken, as the contracts say it.
pub mod Links
pub mod Entries
pub mod Promises
