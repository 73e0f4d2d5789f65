-- What the proofs cite.
pub mod Fill
