-- What the proofs cite.
pub mod Numbers
