-- What the proofs cite.
pub mod Points
