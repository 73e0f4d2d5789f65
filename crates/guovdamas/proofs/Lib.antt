-- What the proofs cite beside the definitions.
pub mod Numbered
