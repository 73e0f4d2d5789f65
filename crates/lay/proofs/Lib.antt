-- The laws that the proofs of the functions cite.
mod Kept
mod Nodes
mod Passes
