-- The ring of a `Cross` while an end is put into it, as the contracts say it; then that the place is one alone.
pub mod Hoops
pub mod Once
pub mod Promises
