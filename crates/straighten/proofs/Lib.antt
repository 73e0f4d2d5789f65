-- The laws that the proofs of the functions cite.
mod Tests
mod Passing
mod Table
