-- The laws that the proofs of the functions cite.
mod Stored
mod Bridges
mod Outcomes
